use Rattle.std.proofs.Common.{◌∙◌}
use Rattle.pm_elements.proofs.Held.{parent_taken}
use Rattle.pm_elements.proofs.Shown.{live_shown}
use Rattle.pm_elements.proofs.table.ElementsParents.parent.Goals as goal

pub returns-clause-live : goal.returns-clause-live
returns-clause-live c =
    let slots = c.self.inside.slots.items in
    let y = c.parent_at.result in
    rw (← c.self.view_is) (live_shown y slots ∙ parent_taken slots c.args.x c.args.i y c.self.invariant.kept.held c.parent_at.ensures)
