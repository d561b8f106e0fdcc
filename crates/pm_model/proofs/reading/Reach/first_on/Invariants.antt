-- The answer is that of the associations that are left.
use Rattle.std.proofs.Common.{◌≡◌, ◌&&◌, drop}
use Rattle.std.specs.List.{position_from}
use Rattle.pm_model.specs.RightSet.{has_right}
use Rattle.pm_model.specs.declared.rights.Grant.{Grant}
use Rattle.pm_model.proofs.reading.Reach.first_on.Given as goal

abbrev pub invariant-loop-i : goal.invariant-loop-i
invariant-loop-i g l =
    let before = g.Self.Reach.relation l.fn.self in
    let test = λ (h : Grant). has_right h.rights l.right && before.below l.x h.at in
    record {
      same : g.Self.Reach.relation l.self ≡ before;
      rest : position_from test 0 l.grants ≡ position_from test l.i (drop l.i l.grants);
    }
