use Rattle.std.proofs.Common.{◌∙◌, sym}
use Rattle.pm_assoc.proofs.Asked.{ends-mentioned}
use Rattle.pm_assoc.proofs.table.Assoc.names.Goals as goal

pub returns : goal.returns
returns c = rw (← c.self.view_is) (c.is_named.ensures ∙ sym (ends-mentioned c.args.id 0 c.self.inside.grantees.items c.self.invariant.ordered))
