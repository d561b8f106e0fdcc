-- The names of assignments that fit are those of elements that stand.
use Rattle.std.proofs.Common.{◌≡◌, true, List}
use Rattle.pm_laws.proofs.Items.{each-at}
use Rattle.pm_model.specs.Effect.{may_assign}
use Rattle.pm_model.specs.Formed.{Each}
use Rattle.pm_policy.specs.Order.{is_made}
use Rattle.pm_policy.specs.Policy.{called}
use Rattle.pm_policy.specs.Sound.{FitAssigned}
use Rattle.pm_policy.specs.Waiting.{AreKnown}
use Rattle.pm_policy.specs.declared.policy.DocElement.{DocElement}
use Rattle.pm_policy.specs.declared.policy.DocAssignment.{DocAssignment}
use Rattle.pm_policy.proofs.Fitting.{both-called}
use Rattle.pm_policy.proofs.Places.{called-made}

abbrev IsMade : List DocElement → DocAssignment → Type 0
IsMade es p = (is_made es p.from ≡ true) × (is_made es p.to ≡ true)

pub fitting : (es : List DocElement) (p : DocAssignment) → FitAssigned es p → IsMade es p
fitting es p fit =
    let b = both-called may_assign (called es p.from) (called es p.to) fit in
    (called-made es p.from b.0 b.2, called-made es p.to b.1 b.3)

pub known : (es : List DocElement) (pairs : List DocAssignment) → Each (FitAssigned es) pairs → AreKnown pairs es
known es pairs fit p c = fitting es p (each-at (FitAssigned es) pairs p fit c)
