use Rattle.std.proofs.Common.{sym, ◌∙◌}
use Rattle.pm_elements.proofs.Nexts.{next_here, next_later}
use Rattle.pm_elements.proofs.Shown.{slot_at-read}
use Rattle.pm_elements.proofs.slots.next_taken.Goals as goal

pub returns-then-is_some-clause-number : goal.returns-then-is_some-clause-number
returns-then-is_some-clause-number c =
    let slots = c.args.slots.now.items in
    let here = slot_at-read slots c.loop-n.n c.at.result.now c.at.ensures in
    sym (c.loop-n.invariant ∙ next_here slots c.loop-n.n c.at.result.now here (sym c.if-is_some.ensures))

pub loop-n-preserved : goal.loop-n-preserved
loop-n-preserved c =
    let slots = c.args.slots.now.items in
    let here = slot_at-read slots c.loop-n.n c.at.result.now c.at.ensures in
    c.loop-n.invariant ∙ next_later slots c.loop-n.n c.at.result.now here (sym c.if-is_some.ensures)
