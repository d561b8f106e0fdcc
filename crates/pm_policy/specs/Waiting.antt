-- Which elements still wait for a container, after rounds each of which lets go of those whose containers wait no more. The
-- project's own.
use Rattle.std.specs.Prelude.{◌≡◌, ℕ, zero, suc, Bool, true, List, filter, Contains}
use Rattle.std.specs.List.{list_any}
use Rattle.pm_policy.specs.Order.{is_made}
use Rattle.pm_policy.specs.Policy.{is_assigned}
use Rattle.pm_policy.specs.declared.policy.DocAssignment.{DocAssignment}
use Rattle.pm_policy.specs.declared.policy.DocElement.{DocElement}

-- at first all wait
abbrev pub waits : List DocAssignment → ℕ → List ℕ → Bool
waits pairs zero name = true
waits pairs (suc k) name = list_any (λ (p : DocAssignment). waits pairs k p.to) (filter (is_assigned name) pairs)

-- the next round lets none of these go
abbrev pub IsSettled : List DocAssignment → ℕ → List DocElement → Type 0
IsSettled pairs k es = (e : DocElement) → Contains es e → waits pairs k e.name ≡ true → waits pairs (suc k) e.name ≡ true

-- the names of the assignments are those of the elements
abbrev pub AreKnown : List DocAssignment → List DocElement → Type 0
AreKnown pairs es = (p : DocAssignment) → Contains pairs p → (is_made es p.from ≡ true) × (is_made es p.to ≡ true)
