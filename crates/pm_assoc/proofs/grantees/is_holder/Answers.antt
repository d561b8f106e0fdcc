use Rattle.std.proofs.Common.{sym}
use Rattle.pm_assoc.proofs.Holding.{holds-at, holds-gap}
use Rattle.pm_assoc.proofs.grantees.is_holder.Goals as goal

pub returns-in-Ok : goal.returns-in-Ok
returns-in-Ok c = sym (holds-at c.args.ua c.args.grantees.now.items _ c.in-Ok.ensures.found)

pub returns-in-Err : goal.returns-in-Err
returns-in-Err c = sym (holds-gap c.args.ua 0 c.args.grantees.now.items _ c.requires.ordered c.in-Err.ensures.absent)
