use Rattle.std.proofs.Common.{◌∙◌, sym}
use Rattle.pm_assoc.proofs.Asked.{joins-at, joins-gap}
use Rattle.pm_assoc.proofs.grantees.has.Goals as goal

pub returns-in-Ok : goal.returns-in-Ok
returns-in-Ok c =
    c.is_given.ensures
    ∙ sym (joins-at c.args.ua c.args.at 0 c.args.grantees.now.items c.in-Ok.i c.at.result.now c.requires.ordered c.in-Ok.ensures.found c.at.ensures)

pub returns-in-Err : goal.returns-in-Err
returns-in-Err c = sym (joins-gap c.args.ua c.args.at 0 c.args.grantees.now.items _ c.requires.ordered c.in-Err.ensures.absent)
