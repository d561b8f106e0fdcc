use Rattle.std.proofs.Common.{sym, ◌∙◌}
use Rattle.pm_elements.proofs.Held.{pair_held}
use Rattle.pm_elements.proofs.table.Elements.is_assigned.Goals as goal

pub returns : goal.returns
returns c = rw (← c.self.view_is) (c.has_parent.ensures ∙ sym (pair_held c.self.inside.slots.items c.args.x c.args.y))
