use Rattle.std.proofs.Common.{◌≡◌, ◌∙◌, false, sym}
use Rattle.std.specs.List.{list_any}
use Rattle.pm_affect.specs.Lists.{subjects}
use Rattle.pm_affect.specs.Rows.{has_near, is_near}
use Rattle.pm_affect.proofs.Untouched.{untouched-far}
use Rattle.pm_affect.proofs.touching.touches.Goals as goal

pub returns-clause-none : goal.returns-clause-none
returns-clause-none g c = λ no.
    let relation = g.R.Reach.relation c.args.reach.now in
    let L = c.args.lists.now in
    let users : list_any (has_near relation.below c.args.region.now) (subjects L.caps) ≡ false =
    sym (rw c.caps.ensures at c.if-some_near.ensures.answer) in
    let elements : list_any (is_near relation.below c.args.region.now) (subjects L.entries) ≡ false =
    sym (rw (c.some_near.ensures.same, c.entries.ensures) at c.some_near-2.ensures.answer) ∙ no in
    untouched-far relation.below c.args.region.now L (sym c.if-is_wide.ensures) users elements
