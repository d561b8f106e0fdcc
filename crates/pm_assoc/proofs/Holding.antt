-- Which numbers are user attributes with associations, before and after a change.
use Rattle.std.proofs.Common.{◌≡◌, ◌≢◌, ℕ, zero, suc, ◌+◌, ◌*◌, ◌<◌, ◌==◌, ◌||◌, Bool, true, false, List, [], ◌∷◌, length, slice_get, Some, insert, filter, All, refl, sym, ap, ◌∙◌, arith, inl, inr}
use Rattle.std.proofs.lemmas.Bool.{cases_eq, eq-eqb, ne_eqb}
use Rattle.std.proofs.lemmas.List.Elements.{All-nil, All-cons}
use Rattle.pm_model.specs.Decision.{is_grantee}
use Rattle.pm_model.specs.declared.rights.Grant.{Grant}
use Rattle.pm_model.specs.declared.rights.Grantee.{Grantee}
use Rattle.pm_assoc.specs.Grantees.{grantee, AreGrantees, IsAt, IsGapFor, edited, with_grant, without_grant, kept, without_empty}
use Rattle.pm_assoc.specs.Holders.{in_set, holds, TellsHolders}
use Rattle.pm_assoc.proofs.SetBits.{within_set}

either : (b : Bool) → (b || true) ≡ true
either true = refl
either false = refl

module _ (ua : ℕ) where
  pub holds-at : (gs : List Grantee) (i : ℕ) → IsAt ua gs i → holds gs ua ≡ true
  holds-at [] i there = absurd there
  holds-at (g ∷ gs) zero there = rw (eq-eqb g.ua ua there) refl
  holds-at (g ∷ gs) (suc i) there = rw (holds-at gs i there.1) (either (g.ua == ua))

  pub none-higher : (n : ℕ) (gs : List Grantee) → AreGrantees n gs → ua < n → holds gs ua ≡ false
  none-higher n [] h below = refl
  none-higher n (g ∷ gs) h below =
      rw (ne_eqb g.ua ua (λ same. omega (arith, same, h.0, below)), none-higher (g.ua + 1) gs h.2 (omega (arith, h.0, below))) refl

  pub holds-gap : (n : ℕ) (gs : List Grantee) (i : ℕ) → AreGrantees n gs → IsGapFor ua gs i → holds gs ua ≡ false
  holds-gap n [] i h gap = refl
  holds-gap n (g ∷ gs) zero h gap = none-higher g.ua (g ∷ gs) (omega arith, h.1, h.2) gap
  holds-gap n (g ∷ gs) (suc i) h gap = rw (ne_eqb g.ua ua (λ same. omega (arith, same, gap.0)), holds-gap (g.ua + 1) gs i h.2 gap.1) refl

  -- those of one number are one
  no-higher : (n : ℕ) (gs : List Grantee) → AreGrantees n gs → ua < n → filter (is_grantee ua) gs ≡ []
  no-higher n [] h below = refl
  no-higher n (g ∷ gs) h below =
      rw (ne_eqb g.ua ua (λ same. omega (arith, same, h.0, below))) (no-higher (g.ua + 1) gs h.2 (omega (arith, h.0, below)))

  pub one-at : (n : ℕ) (gs : List Grantee) (i : ℕ) (g : Grantee) → AreGrantees n gs → IsAt ua gs i → slice_get gs i ≡ Some g →
      filter (is_grantee ua) gs ≡ g ∷ []
  one-at n [] i g h there read = absurd there
  one-at n (x ∷ gs) zero g h there read =
      let same : x ≡ g = cc in
      rw (eq-eqb x.ua ua there, no-higher (x.ua + 1) gs h.2 (omega (arith, there))) (ap (λ y. y ∷ []) same)
  one-at n (x ∷ gs) (suc i) g h there read =
      rw (ne_eqb x.ua ua (λ same. omega (arith, same, there.0))) (one-at (x.ua + 1) gs i g h.2 there.1 read)

  -- ---- one association more

  pub holds-edited : (f : Grantee → Grantee) → ((g : Grantee) → (f g).ua ≡ g.ua) → (gs : List Grantee) (i n : ℕ) → holds (edited f i gs) n ≡ holds gs n
  holds-edited f same [] i n = refl
  holds-edited f same (g ∷ gs) zero n = rw (same g) refl
  holds-edited f same (g ∷ gs) (suc i) n = rw (holds-edited f same gs i n) refl

  already : (gs : List Grantee) (n : ℕ) → holds gs ua ≡ true → holds gs n ≡ (n == ua || holds gs n)
  already gs n is = elim (cases_eq n ua) [
    | inl e ↦ rw (eq-eqb n ua e, e) is
    | inr d ↦ rw (ne_eqb n ua d) refl
  ]

  pub holds-added : (gs : List Grantee) (i : ℕ) (grant : Grant) → IsAt ua gs i → (n : ℕ) →
      holds (edited (with_grant grant) i gs) n ≡ (n == ua || holds gs n)
  holds-added gs i grant there n = holds-edited (with_grant grant) (λ g. refl) gs i n ∙ already gs n (holds-at gs i there)

  pub turned : (a b : ℕ) → (a == b) ≡ (b == a)
  turned a b = elim (cases_eq a b) [
    | inl e ↦ rw (eq-eqb a b e, eq-eqb b a (sym e)) refl
    | inr d ↦ rw (ne_eqb a b d, ne_eqb b a (λ e. d (sym e))) refl
  ]

  swapped : (a b c : Bool) → (a || (b || c)) ≡ (b || (a || c))
  swapped true true c = refl
  swapped true false c = refl
  swapped false b c = refl

  pub holds-new : (gs : List Grantee) (i : ℕ) (grants : List Grant) (m : ℕ) → AreGrantees m gs → IsGapFor ua gs i → (n : ℕ) →
      holds (insert gs i (grantee ua grants)) n ≡ (n == ua || holds gs n)
  holds-new [] zero grants m h gap n = rw (turned ua n) refl
  holds-new [] (suc i) grants m h gap n = absurd (omega (arith, gap))
  holds-new (g ∷ gs) zero grants m h gap n = rw (turned ua n) refl
  holds-new (g ∷ gs) (suc i) grants m h gap n =
      rw (holds-new gs i grants (g.ua + 1) h.2 gap.1 n) (swapped (g.ua == n) (n == ua) (holds gs n))

  -- ---- one association less

  holds-kept : (g : Grantee) (gs : List Grantee) (n : ℕ) → n ≢ g.ua → holds (kept g gs) n ≡ holds gs n
  holds-kept g gs n other = of (length g.grants == 0) refl where
    of : (b : Bool) → (length g.grants == 0) ≡ b → holds (kept g gs) n ≡ holds gs n
    of true is = rw is refl
    of false is = rw (is, ne_eqb g.ua n (λ e. other (sym e))) refl

  pub holds-others : (gs : List Grantee) (i at : ℕ) → IsAt ua gs i → (n : ℕ) → n ≢ ua →
      holds (without_empty i (edited (without_grant at) i gs)) n ≡ holds gs n
  holds-others [] i at there n other = absurd there
  holds-others (g ∷ gs) zero at there n other =
      let apart : n ≢ g.ua = λ e. other (e ∙ there) in
      holds-kept (without_grant at g) gs n apart ∙ rw (ne_eqb g.ua n (λ e. apart (sym e))) refl
  holds-others (g ∷ gs) (suc i) at there n other = rw (holds-others gs i at there.1 n other) refl

-- ---- the set of them

pub tells-added : (ua : ℕ) (before after : List ℕ) (old new : List Grantee) → TellsHolders before old →
    ((n : ℕ) → in_set after n ≡ (n == ua || in_set before n)) → ((n : ℕ) → holds new n ≡ (n == ua || holds old n)) → TellsHolders after new
tells-added ua before after old new told put made n = put n ∙ rw (told n) (sym (made n))

-- each of them is within the words
bounded : (gs : List Grantee) (b : ℕ) → ((n : ℕ) → holds gs n ≡ true → n < b) → All (λ (g : Grantee). g.ua < b) gs
bounded [] b h = All-nil (λ (g : Grantee). g.ua < b)
bounded (g ∷ gs) b h =
    All-cons (λ (g : Grantee). g.ua < b) g gs (h g.ua (rw (eq-eqb g.ua g.ua refl) refl)) (bounded gs b (λ n is. h n (rw is (either (g.ua == n)))))

pub within-words : (words : List ℕ) (n : ℕ) (gs : List Grantee) → n ≡ length words → TellsHolders words gs → All (λ (g : Grantee). g.ua < 64 * n) gs
within-words words n gs long told = bounded gs (64 * n) (λ m is. let within = within_set words m (told m ∙ is) in omega (arith, long, within))
