-- The opening's elements and assignments, where other elements and assignments come and go.
use Rattle.std.proofs.Common.{◌≡◌, ℕ, List, true, false, refl, ap}
use Rattle.std.specs.List.{list_any}
use Rattle.std.proofs.lemmas.Bool.{false_from_ne_true}
use Rattle.pm_model.specs.State.{opening_elements, opening_assigned}
use Rattle.pm_model.specs.Effect.{placed, is_pair, is_builtin}
use Rattle.pm_model.specs.Resolve.{unused}
use Rattle.pm_model.specs.Formed.{Each, AreRising, Stands, StandsAssigned}
use Rattle.pm_model.specs.declared.elements.Element.{Element}
use Rattle.pm_laws.proofs.Items.{each-to}
use Rattle.pm_laws.proofs.Numbers.{live-placed, live-some}
use Rattle.pm_laws.proofs.Pairs.{pair-is, assigned-is, assigned-at, without, without-keeps}
use Rattle.pm_laws.proofs.Shape.{IsWithin}

pub opening-placed : (x : Element) (es : List Element) → AreRising 0 es → x.number ≡ unused es →
    Each (Stands es) opening_elements → Each (Stands (placed x es)) opening_elements
opening-placed x es h u =
    each-to (Stands es) (Stands (placed x es))
    (λ e s. rw (live-placed x es e.number h u (live-some es e.number e s)) s) opening_elements

pub opening-within : (assigned more : List (ℕ × ℕ)) → IsWithin assigned more → Each (StandsAssigned assigned) opening_assigned →
    Each (StandsAssigned more) opening_assigned
opening-within assigned more sub =
    each-to (StandsAssigned assigned) (StandsAssigned more)
    (λ p h. assigned-at more p.0 p.1 (sub p.0 p.1 (assigned-is assigned p.0 p.1 h))) opening_assigned

not-builtin : (x y a b : ℕ) → is_builtin x y ≡ false → is_builtin a b ≡ true → is_pair x y (a, b) ≡ false
not-builtin x y a b other builtin =
    false_from_ne_true (is_pair x y (a, b)) (λ is.
    let same = pair-is x y (a, b) is in
    let tail : a ≡ x = ap (λ (p : ℕ × ℕ). p.0) same in
    let head : b ≡ y = ap (λ (p : ℕ × ℕ). p.1) same in
    let yes : is_builtin x y ≡ true = rw (← tail, ← head) builtin in cc)

-- an assignment that isn't the opening's goes, and the opening's stay
pub opening-without : (assigned : List (ℕ × ℕ)) (x y : ℕ) → is_builtin x y ≡ false →
    Each (StandsAssigned assigned) opening_assigned → Each (StandsAssigned (without x y assigned)) opening_assigned
opening-without assigned x y other h = (kept 1 0 h.0 refl, (kept 2 1 h.1.0 refl, tt)) where
  kept : (a b : ℕ) → list_any (is_pair a b) assigned ≡ true → is_builtin a b ≡ true → list_any (is_pair a b) (without x y assigned) ≡ true
  kept a b stands builtin =
      let apart = not-builtin x y a b other builtin in
      assigned-at (without x y assigned) a b (without-keeps x y assigned (a, b) (assigned-is assigned a b stands) apart)
