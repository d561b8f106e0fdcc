-- What containment keeps where assignments of one element come or go.
use Rattle.std.proofs.Common.{◌≡◌, ℕ, Bool, true, false, List, ◌∷◌, refl, sym, ◌∙◌, inl, inr}
use Rattle.std.proofs.lemmas.Bool.{false_from_ne_true, false≢true}
use Rattle.pm_model.specs.Containment.{contained, IsContained}
use Rattle.pm_model.specs.Effect.{has_child, with_assignment}
use Rattle.pm_model.proofs.ContainmentLaws.{contained-cases, contained-trans, contained-from_path, path-from_contained}
use Rattle.pm_laws.proofs.Added.{has-added}
use Rattle.pm_laws.proofs.Shape.{IsWithin, contained-within}
use Rattle.pm_laws.proofs.Deleted.{left_pairs, pairs-within, leads-left}

same-answers : (a b : Bool) → (a ≡ true → b ≡ true) → (b ≡ true → a ≡ true) → a ≡ b
same-answers true b h k = sym (h refl)
same-answers false true h k = k refl
same-answers false false h k = refl

-- a pair of x more
module _ (less more : List (ℕ × ℕ)) (x y : ℕ) (sub : IsWithin less more) (one : IsWithin more ((x, y) ∷ less)) where
  -- as much is contained in x
  pub under-same : (p : ℕ) → contained more p x ≡ contained less p x
  under-same p = same-answers (contained more p x) (contained less p x)
      (λ h. elim (contained-cases (x, y) less p x (contained-within more ((x, y) ∷ less) one p x h)) [ inl a ↦ a | inr b ↦ b.0 ])
      (contained-within less more sub p x)

  -- and what isn't is contained in the same elements
  pub outside-same : (p q : ℕ) → contained less p x ≡ false → contained more p q ≡ contained less p q
  outside-same p q out = same-answers (contained more p q) (contained less p q)
      (λ h. elim (contained-cases (x, y) less p q (contained-within more ((x, y) ∷ less) one p q h)) [
        | inl a ↦ a
        | inr b ↦ absurd (false≢true (sym out ∙ b.0))
      ])
      (contained-within less more sub p q)

  -- what contains such an element isn't contained in x either
  pub above-outside : (e a : ℕ) → contained less e x ≡ false → contained less e a ≡ true → contained less a x ≡ false
  above-outside e a out up = false_from_ne_true (contained less a x) (λ k. false≢true (sym out ∙ contained-trans less e a x up k))

-- the pair at its place
pub added-within : (pairs : List (ℕ × ℕ)) (x y : ℕ) → IsWithin (with_assignment (x, y) pairs) ((x, y) ∷ pairs)
added-within pairs x y a b c = has-added (x, y) pairs (a, b) c

-- ---- all pairs of an element gone, to which none leads

module _ (id : ℕ) (pairs : List (ℕ × ℕ)) (none : has_child pairs id ≡ false) where
  -- another element is contained in the same as before
  pub left-same : (p q : ℕ) → (p ≡ id → ⊥) → contained (left_pairs id pairs) p q ≡ contained pairs p q
  left-same p q other = same-answers (contained (left_pairs id pairs) p q) (contained pairs p q)
      (contained-within (left_pairs id pairs) pairs (pairs-within id pairs) p q)
      (λ h.
      let path : IsContained pairs p q = path-from_contained pairs p q h in
      contained-from_path (left_pairs id pairs) p path.0 q (leads-left id pairs none p path.0 q other path.1).0)

  -- and not in it
  pub left-apart : (p q : ℕ) → (p ≡ id → ⊥) → contained pairs p q ≡ true → q ≡ id → ⊥
  left-apart p q other h =
      let path : IsContained pairs p q = path-from_contained pairs p q h in (leads-left id pairs none p path.0 q other path.1).1
