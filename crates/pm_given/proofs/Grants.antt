-- The grants that a user is given: those of one user attribute after another.
use Rattle.std.proofs.Common.{◌≡◌, ℕ, ◌*◌, ◌/◌, ◌%◌, ◌<◌, ◌≤◌, ◌==◌, ◌++◌, ◌||◌, ◌&&◌, Bool, true, false, List, [], ◌∷◌, Option, None, Some, if◌then◌else◌, All, length, take, drop, get_or, refl, sym, ap, subst, ◌∙◌, arith, inl, inr}
use Rattle.std.specs.List.{list_any, list_all}
use Rattle.std.proofs.lemmas.Bool.{cases_lt, eqb-true, true≢false}
use Rattle.std.proofs.lemmas.Nat.Bits.{bit_at-zero}
use Rattle.std.proofs.lemmas.List.Elements.{All-head, All-tail, All-weaker}
use Rattle.std.proofs.lemmas.List.Folds.{list_any-append}
use Rattle.pm_model.specs.Decision.{is_met, associations_of, classes_of, privilege}
use Rattle.pm_model.specs.Containment.{Relation}
use Rattle.pm_model.specs.Formed.{Each}
use Rattle.pm_model.specs.RightSet.{has_right}
use Rattle.pm_model.specs.declared.rights.Grant.{Grant}
use Rattle.pm_model.specs.declared.rights.Grantee.{Grantee}
use Rattle.pm_decide.specs.Gives.{gives, some_gives}
use Rattle.pm_decide.specs.Hits.{some_of}
use Rattle.pm_decide.specs.Live.{IsLive, GranteeLive, EndsLive}
use Rattle.pm_decide.proofs.Groups.{met_by_some}
use Rattle.pm_given.specs.Given.{given, is_at, some_at}
use Rattle.pm_given.specs.Told.{AllWithin, AreEmptyFrom, AreMarked, AreTold, AreWithin, is_marked, tells}

module _ (below : ℕ → ℕ → Bool) (u : ℕ) (t : Grant → Bool) where
  pub given-any : (gs : List Grantee) → some_of (below u) (λ (g : Grantee). list_any t g.grants) gs ≡ list_any t (given below u gs)
  given-any [] = refl
  given-any (g ∷ gs) = of (below u g.ua) (given-any gs) where
    of : (b : Bool) → some_of (below u) (λ (g : Grantee). list_any t g.grants) gs ≡ list_any t (given below u gs) →
        ((b && list_any t g.grants) || some_of (below u) (λ (g : Grantee). list_any t g.grants) gs)
        ≡ list_any t (if b then g.grants ++ given below u gs else given below u gs)
    of true rest = ap (λ b. list_any t g.grants || b) rest ∙ sym (list_any-append t g.grants (given below u gs))
    of false rest = rest

-- by an association of an attribute that contains the user, where some grant that it is given gives it
pub given-met : (below : ℕ → ℕ → Bool) (gs : List Grantee) (u r e c : ℕ) →
    is_met below (associations_of gs) u r e c ≡ list_any (gives below r e c) (given below u gs)
given-met below gs u r e c = met_by_some below u r e c gs ∙ given-any below u (gives below r e c) gs

-- ---- what is live

module _ {X : Type 0} (P : X → Type 0) where
  each-append : (xs ys : List X) → Each P xs → Each P ys → Each P (xs ++ ys)
  each-append [] ys h k = k
  each-append (x ∷ xs) ys h k = (h.0, each-append xs ys h.1 k)

  each-all : (xs : List X) → All P xs → Each P xs
  each-all [] h = tt
  each-all (x ∷ xs) h = (All-head P x xs h, each-all xs (All-tail P x xs h))

  found : (t : X → Bool) (xs : List X) → Each P xs → list_any t xs ≡ true → (x : X) × (t x ≡ true) × P x
  found t [] e h = absurd (true≢false (sym h))
  found t (x ∷ xs) e h = of (t x) refl (found t xs e.1) where
    of : (b : Bool) → t x ≡ b → (list_any t xs ≡ true → (y : X) × (t y ≡ true) × P y) → (y : X) × (t y ≡ true) × P y
    of true is rest = (x, is, e.0)
    of false is rest = rest (rw is at h)

given-live : (relation : Relation) (u : ℕ) (gs : List Grantee) → EndsLive relation gs →
    Each (λ (h : Grant). IsLive relation h.at) (given relation.below u gs)
given-live relation u [] live = tt
given-live relation u (g ∷ gs) live =
    of (relation.below u g.ua) (given-live relation u gs (All-tail (GranteeLive relation) g gs live)) where
      of : (b : Bool) → Each (λ (h : Grant). IsLive relation h.at) (given relation.below u gs) →
          Each (λ (h : Grant). IsLive relation h.at) (if b then g.grants ++ given relation.below u gs else given relation.below u gs)
      of true rest = each-append (λ (h : Grant). IsLive relation h.at) g.grants (given relation.below u gs)
          (each-all (λ (h : Grant). IsLive relation h.at) g.grants (All-head (GranteeLive relation) g gs live).places) rest
      of false rest = rest

-- each element that is marked
pub marked-live : (relation : Relation) (u : ℕ) (gs : List Grantee) → EndsLive relation gs → (own marks : List ℕ) →
    AreTold (given relation.below u gs) own marks → (p : ℕ) → is_marked marks p ≡ true → IsLive relation p
marked-live relation u gs live own marks told p marked =
    let f = found (λ (h : Grant). IsLive relation h.at) (is_at None p) (given relation.below u gs) (given-live relation u gs live) (sym (told None p) ∙ marked) in
    let is : f.0.at ≡ p = eqb-true f.0.at p f.1 in
    subst (IsLive relation) is f.2

-- the ends of all associations are within the words
pub ends-within : (relation : Relation) (n : ℕ) (gs : List Grantee) → EndsLive relation gs → ((x : ℕ) → IsLive relation x → x < n) → AllWithin n gs
ends-within relation n gs live fits = All-weaker (GranteeLive relation) (λ (g : Grantee). AreWithin n g.grants)
    (λ g ends. All-weaker (λ (h : Grant). IsLive relation h.at) (λ (h : Grant). h.at < n) (λ h here. fits h.at here) g.grants ends.places) gs live

-- ---- tables

nothing-at : (r p : ℕ) (L : List Grant) → list_any (is_at None p) L ≡ false → list_any (is_at (Some r) p) L ≡ false
nothing-at r p [] h = refl
nothing-at r p (x ∷ L) h = of (x.at == p) refl (nothing-at r p L) where
  none : (b : Bool) → (b && false) ≡ false
  none true = refl
  none false = refl

  of : (b : Bool) → (x.at == p) ≡ b → (list_any (is_at None p) L ≡ false → list_any (is_at (Some r) p) L ≡ false) → list_any (is_at (Some r) p) (x ∷ L) ≡ false
  of true is rest = absurd (true≢false (rw is at h))
  of false is rest = rw (is, none (has_right x.rights r)) (rest (rw is at h))

-- where no mark is, nothing is told, as nothing is given
pub told-marked : (L : List Grant) (own marks : List ℕ) → AreTold L own marks → AreMarked own marks
told-marked L own marks told r p none = told (Some r) p ∙ nothing-at r p L (sym (told None p) ∙ none)

-- with the used words empty, nothing is told
pub nothing-told : (own marks own_new marks_new : List ℕ) (n : ℕ) → AreEmptyFrom n marks → AreMarked own marks →
    ((k : ℕ) → k < 64 * n → get_or own_new k 0 ≡ 0) → ((k : ℕ) → 64 * n ≤ k → get_or own_new k 0 ≡ get_or own k 0) →
    ((k : ℕ) → k < n → get_or marks_new k 0 ≡ 0) → ((k : ℕ) → n ≤ k → get_or marks_new k 0 ≡ get_or marks k 0) →
    (q : Option ℕ) (p : ℕ) → tells own_new marks_new q p ≡ false
nothing-told own marks own_new marks_new n rest marked own_none own_rest marks_none marks_rest None p = elim (cases_lt (p / 64) n) [
  | inl l ↦ rw (marks_none (p / 64) l, bit_at-zero (p % 64)) refl
  | inr l ↦ rw (marks_rest (p / 64) l, rest (p / 64) l, bit_at-zero (p % 64)) refl
]
nothing-told own marks own_new marks_new n rest marked own_none own_rest marks_none marks_rest (Some r) p = elim (cases_lt p (64 * n)) [
  | inl l ↦ rw (own_none p l, bit_at-zero r) refl
  | inr l ↦
      let page : n ≤ p / 64 = omega (arith, l) in
      let out : tells own marks None p ≡ false = rw (rest (p / 64) page, bit_at-zero (p % 64)) refl in
      rw (own_rest p l) (marked r p out)
]

-- words that are all empty tell nothing
pub empty-marked : (own marks : List ℕ) → ((k : ℕ) → get_or own k 0 ≡ 0) → AreMarked own marks
empty-marked own marks none r p h = rw (none p, bit_at-zero r) refl

-- ---- privileges

pub held-privilege : (below : ℕ → ℕ → Bool) (gs : List Grantee) (classes : List ℕ) (u e r : ℕ) →
    list_all (λ c. list_any (gives below r e c) (given below u gs)) (classes_of below classes e) ≡ privilege below (associations_of gs) classes u r e
held-privilege below gs classes u e r = all-same (classes_of below classes e) where
  all-same : (cs : List ℕ) → list_all (λ c. list_any (gives below r e c) (given below u gs)) cs ≡ list_all (is_met below (associations_of gs) u r e) cs
  all-same [] = refl
  all-same (c ∷ cs) = rw (given-met below gs u r e c, all-same cs) refl

-- ---- a list that is written back

front : (new rest : List ℕ) → take (length new) (new ++ rest) ≡ new
front [] rest = refl
front (x ∷ new) rest = ap (λ ys. x ∷ ys) (front new rest)

pub written : (n : ℕ) (new old : List ℕ) → length new ≡ n → take n (new ++ drop (length new) old) ≡ new
written n new old is = rw (← is) (front new (drop (length new) old))
