-- Names: what has a name of its own keeps it where an element of an unused name comes.
use Rattle.std.proofs.Common.{◌≡◌, ℕ, List, [], ◌∷◌, false, refl, sym, Contains, inl, inr, bytes_eq}
use Rattle.std.specs.List.{list_any}
use Rattle.std.proofs.lemmas.Slice.Eq.{bytes_eq-Decides}
use Rattle.std.proofs.lemmas.Bool.{false_from_ne_true, or_parts}
use Rattle.pm_model.specs.State.{is_named}
use Rattle.pm_model.specs.Effect.{placed}
use Rattle.pm_model.specs.Formed.{HaveOwnNames}
use Rattle.pm_model.specs.declared.elements.Element.{Element}
use Rattle.pm_laws.proofs.Items.{contains-cases, contains-none, none-at, none-from}
use Rattle.pm_laws.proofs.Numbers.{placed-cases, placed-split}

pub other-swapped : (a b : List ℕ) → bytes_eq a b ≡ false → bytes_eq b a ≡ false
other-swapped a b h = false_from_ne_true (bytes_eq b a) (λ is.
    let same : b ≡ a = (bytes_eq-Decides b a).0 is in
    let yes = (bytes_eq-Decides a b).1 (sym same) in cc)

pub names-placed : (es : List Element) (x : Element) → HaveOwnNames es → list_any (is_named x.name) es ≡ false →
    HaveOwnNames (placed x es)
names-placed [] x h free = (refl, tt)
names-placed (e ∷ es) x h free = placed-split x HaveOwnNames e es (free, h) (others, names-placed es x h.1 apart.1) where
  apart : (is_named x.name e ≡ false) × (list_any (is_named x.name) es ≡ false)
  apart = or_parts (is_named x.name e) (list_any (is_named x.name) es) free

  others : list_any (is_named e.name) (placed x es) ≡ false
  others = none-from (is_named e.name) (placed x es) (λ a c. elim (placed-cases x es a c) [
    | inl new ↦ rw (← new) (other-swapped x.name e.name apart.0)
    | inr old ↦ none-at (is_named e.name) es a h.0 old
  ])

-- no two elements have one name
pub one-name : (es : List Element) (a b : Element) → HaveOwnNames es → Contains es a → Contains es b → a.name ≡ b.name → a ≡ b
one-name [] a b h c d same = contains-none a c
one-name (e ∷ es) a b h c d same = elim (contains-cases e a es c) [
  | inl first ↦ elim (contains-cases e b es d) [
    | inl also ↦ cc
    | inr later ↦ absurd (clash e.name b h.0 later (rw first same))
  ]
  | inr below ↦ elim (contains-cases e b es d) [
    | inl first ↦ absurd (clash e.name a h.0 below (rw first (sym same)))
    | inr later ↦ one-name es a b h.1 below later same
  ]
] where
  clash : (name : List ℕ) (y : Element) → list_any (is_named name) es ≡ false → Contains es y → name ≡ y.name → ⊥
  clash name y none c same =
      let no = none-at (is_named name) es y none c in
      let yes = (bytes_eq-Decides name y.name).1 same in cc
