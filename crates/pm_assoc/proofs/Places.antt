-- Where a user attribute stands among those that rise: behind as many as are lower.
use Rattle.std.proofs.Common.{◌≡◌, ℕ, zero, suc, ◌+◌, ◌<◌, ◌≤◌, ◌||◌, Bool, true, false, List, [], ◌∷◌, length, slice_get, Some, None, refl, sym, ap, ◌∙◌, arith, inl, inr}
use Rattle.std.proofs.lemmas.Bool.{cases_lt, cases_eq, eq-eqb, ne_eqb, false≢true}
use Rattle.pm_model.specs.declared.rights.Grantee.{Grantee}
use Rattle.pm_assoc.specs.Grantees.{AreGrantees, IsAt, IsGapFor, is_of, passes_at}
use Rattle.pm_assoc.specs.Holders.{in_set, count_below, holds, TellsBelow}
use Rattle.pm_assoc.proofs.Holding.{none-higher, turned}
use Rattle.pm_assoc.proofs.Counts.{count-same, count-behind}

-- ---- what is read at a place

pub passes-read : (test : Grantee → Bool) (gs : List Grantee) (i : ℕ) (g : Grantee) → slice_get gs i ≡ Some g → passes_at test gs i ≡ test g
passes-read test [] i g is = cc
passes-read test (d ∷ gs) zero g is = let same : d ≡ g = cc in ap test same
passes-read test (d ∷ gs) (suc i) g is = passes-read test gs i g is

pub passes-none : (test : Grantee → Bool) (gs : List Grantee) (i : ℕ) → slice_get gs i ≡ None → passes_at test gs i ≡ false
passes-none test [] i is = refl
passes-none test (d ∷ gs) zero is = cc
passes-none test (d ∷ gs) (suc i) is = passes-none test gs i is

module _ (ua : ℕ) where
  pub at-within : (gs : List Grantee) (i : ℕ) → IsAt ua gs i → i < length gs
  at-within [] i there = absurd there
  at-within (g ∷ gs) zero there = omega arith
  at-within (g ∷ gs) (suc i) there = let rest = at-within gs i there.1 in omega (arith, rest)

  pub gap-within : (gs : List Grantee) (i : ℕ) → IsGapFor ua gs i → i ≤ length gs
  gap-within [] i gap = omega (arith, gap)
  gap-within (g ∷ gs) zero gap = omega arith
  gap-within (g ∷ gs) (suc i) gap = let rest = gap-within gs i gap.1 in omega (arith, rest)

  pub at-passes : (gs : List Grantee) (i : ℕ) → IsAt ua gs i → passes_at (is_of ua) gs i ≡ true
  at-passes [] i there = absurd there
  at-passes (g ∷ gs) zero there = eq-eqb g.ua ua there
  at-passes (g ∷ gs) (suc i) there = at-passes gs i there.1

  pub gap-passes : (gs : List Grantee) (i : ℕ) → IsGapFor ua gs i → passes_at (is_of ua) gs i ≡ false
  gap-passes [] i gap = refl
  gap-passes (g ∷ gs) zero gap = ne_eqb g.ua ua (λ e. omega (arith, e, gap))
  gap-passes (g ∷ gs) (suc i) gap = gap-passes gs i gap.1

  -- none is lower than the first
  none-lower : (g : Grantee) (gs : List Grantee) → AreGrantees (g.ua + 1) gs → (m : ℕ) → m ≤ g.ua → count_below (holds (g ∷ gs)) m ≡ 0
  none-lower g gs h zero least = refl
  none-lower g gs h (suc m) least =
      rw (ne_eqb g.ua m (λ e. omega (arith, e, least)), none-higher m (g.ua + 1) gs h (omega (arith, least))) (none-lower g gs h m (omega (arith, least)))

  -- and of those behind it there is one less
  one-lower : (g : Grantee) (gs : List Grantee) → AreGrantees (g.ua + 1) gs → (m : ℕ) → g.ua < m → count_below (holds (g ∷ gs)) m ≡ suc (count_below (holds gs) m)
  one-lower g gs h m below =
      count-behind (holds gs) (holds (g ∷ gs)) g.ua (λ k. ap (λ b. b || holds gs k) (turned k g.ua k)) (none-higher g.ua (g.ua + 1) gs h (omega arith)) m below

  pub located : (n : ℕ) (gs : List Grantee) → AreGrantees n gs → holds gs ua ≡ true → IsAt ua gs (count_below (holds gs) ua)
  located n [] h is = absurd (false≢true is)
  located n (g ∷ gs) h is = elim (cases_eq g.ua ua) [
    | inl e ↦ rw (none-lower g gs h.2 ua (omega (arith, e))) e
    | inr d ↦ elim (cases_lt g.ua ua) [
      | inl below ↦
          let rest : holds gs ua ≡ true = rw (ne_eqb g.ua ua d) at is in
          rw (one-lower g gs h.2 ua below) (below, located (g.ua + 1) gs h.2 rest)
      | inr past ↦ absurd (false≢true (sym (none-higher ua g.ua (g ∷ gs) (omega arith, h.1, h.2) (omega (arith, past, d))) ∙ is))
    ]
  ]

  pub gap-found : (n : ℕ) (gs : List Grantee) → AreGrantees n gs → holds gs ua ≡ false → IsGapFor ua gs (count_below (holds gs) ua)
  gap-found n [] h is = nothing ua where
    nothing : (m : ℕ) → count_below (holds []) m ≡ 0
    nothing zero = refl
    nothing (suc m) = nothing m
  gap-found n (g ∷ gs) h is = elim (cases_eq g.ua ua) [
    | inl e ↦ absurd (false≢true (sym is ∙ rw (eq-eqb g.ua ua e) refl))
    | inr d ↦ elim (cases_lt g.ua ua) [
      | inl below ↦
          let rest : holds gs ua ≡ false = rw (ne_eqb g.ua ua d) at is in
          rw (one-lower g gs h.2 ua below) (below, gap-found (g.ua + 1) gs h.2 rest)
      | inr past ↦ rw (none-lower g gs h.2 ua past) (omega (arith, past, d))
    ]
  ]

  -- what a set tells of those that are lower is enough
  pub told-place : (words : List ℕ) (gs : List Grantee) (i : ℕ) → TellsBelow ua words gs → i ≡ count_below (in_set words) ua → i ≡ count_below (holds gs) ua
  told-place words gs i told is = is ∙ count-same (in_set words) (holds gs) ua told

  pub stands-at : (gs : List Grantee) (i : ℕ) → AreGrantees 0 gs → i ≡ count_below (holds gs) ua → passes_at (is_of ua) gs i ≡ true → IsAt ua gs i
  stands-at gs i h place is = of (holds gs ua) refl where
    of : (b : Bool) → holds gs ua ≡ b → IsAt ua gs i
    of true held = rw place (located 0 gs h held)
    of false held = absurd (false≢true (sym (gap-passes gs i (rw place (gap-found 0 gs h held))) ∙ is))

  pub stands-not : (gs : List Grantee) (i : ℕ) → AreGrantees 0 gs → i ≡ count_below (holds gs) ua → passes_at (is_of ua) gs i ≡ false → IsGapFor ua gs i
  stands-not gs i h place is = of (holds gs ua) refl where
    of : (b : Bool) → holds gs ua ≡ b → IsGapFor ua gs i
    of true held = absurd (false≢true (sym is ∙ at-passes gs i (rw place (located 0 gs h held))))
    of false held = rw place (gap-found 0 gs h held)
