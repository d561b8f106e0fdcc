use Rattle.std.proofs.Common.{◌∙◌, sym}
use Rattle.pm_assoc.proofs.Edits.{remove-empty, keep-full}
use Rattle.pm_assoc.proofs.grantees.drop_empty.Goals as goal

pub returns-then-is_bare-clause-items : goal.returns-then-is_bare-clause-items
returns-then-is_bare-clause-items c =
    c.remove-empty.ensures.items
    ∙ remove-empty c.args.grantees.now.items c.args.i c.at.result.now c.at.ensures (sym c.is_bare.ensures ∙ c.if-is_bare.true)

pub returns-else-is_bare-clause-items : goal.returns-else-is_bare-clause-items
returns-else-is_bare-clause-items c =
    keep-full c.args.grantees.now.items c.args.i c.at.result.now c.at.ensures (sym c.is_bare.ensures ∙ c.if-is_bare.false)
