-- A document's elements by name, behind those of the opening.
use Rattle.std.proofs.Common.{◌≡◌, ◌-◌, true, List, [], ◌∷◌, ◌++◌, length, take, drop, refl, arith}
use Rattle.pm_laws.proofs.Items.{none-at, none-from}
use Rattle.pm_laws.proofs.Names.{other-swapped}
use Rattle.pm_policy.specs.Order.{is_made, order, ordered, sorted, stands_before}
use Rattle.pm_policy.specs.Policy.{is_called, opening_docs, standing}
use Rattle.pm_policy.specs.Sound.{AreOnceCalled}
use Rattle.pm_policy.specs.Waiting.{AreKnown}
use Rattle.pm_policy.specs.declared.policy.DocAssignment.{DocAssignment}
use Rattle.pm_policy.specs.declared.policy.DocElement.{DocElement}
use Rattle.pm_policy.proofs.Sorted.{has-sorted, length-sorted, once-sorted, sorted-has}
use Rattle.pm_policy.proofs.Standing.{append-within, made-within}

once-behind : (xs es : List DocElement) → AreOnceCalled (xs ++ es) → AreOnceCalled (xs ++ sorted stands_before es)
once-behind [] es once = once-sorted stands_before (λ (d e : DocElement). is_called d.name e) (λ d e h. other-swapped d.name e.name h) es once
once-behind (x ∷ xs) es once = (
  none-from (is_called x.name) (xs ++ sorted stands_before es) (λ d c. none-at (is_called x.name) (xs ++ es) d once.0
      (append-within xs (sorted stands_before es) es (λ e i. has-sorted stands_before es e i) d c)),
  once-behind xs es once.1,
)

pub standing_once : (es : List DocElement) → AreOnceCalled (standing es) → AreOnceCalled (standing (sorted stands_before es))
standing_once es once = once-behind opening_docs es once

pub elements_alone : (es : List DocElement) → AreOnceCalled (standing es) → AreOnceCalled es
elements_alone es once = once.1.1.1

pub standing_known : (es : List DocElement) (pairs : List DocAssignment) → AreKnown pairs (standing es) → AreKnown pairs (standing (sorted stands_before es))
standing_known es pairs known p c = (there p.from (known p c).0, there p.to (known p c).1) where
  there : (name : _) → is_made (standing es) name ≡ true → is_made (standing (sorted stands_before es)) name ≡ true
  there name h = made-within (standing es) (standing (sorted stands_before es)) name
      (λ e i. append-within opening_docs es (sorted stands_before es) (λ d j. sorted-has stands_before es d j) e i) h

-- the turns of all of them, where those of the opening are made
pub standing_order : (es : List DocElement) (pairs : List DocAssignment) →
    ordered pairs (length (standing (sorted stands_before es)) - 3) (take 3 (standing (sorted stands_before es))) (drop 3 (standing (sorted stands_before es)))
    ≡ order pairs es
standing_order es pairs =
    let same : length (standing (sorted stands_before es)) - 3 ≡ length es = let l = length-sorted stands_before es in omega (arith, l) in
    rw same refl
