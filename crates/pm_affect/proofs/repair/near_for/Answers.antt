use Rattle.std.proofs.Common.{◌≡◌, false, sym}
use Rattle.std.specs.List.{list_any}
use Rattle.pm_affect.specs.Lists.{subjects}
use Rattle.pm_affect.specs.Rows.{has_near}
use Rattle.pm_affect.proofs.Rows.{none-near}
use Rattle.pm_affect.proofs.repair.near_for.Goals as goal

pub returns-clause-near : goal.returns-clause-near
returns-clause-near g c u among is =
    let test = has_near (g.R.Reach.relation c.args.reach.now).below c.args.region.now in
    let none : list_any test (subjects c.args.lists.now.caps) ≡ false = sym (rw c.caps.ensures at c.if-some_near.ensures.answer) in
    absurd (none-near test u (subjects c.args.lists.now.caps) none among is)
