-- The privilege holds exactly where no class is lacking.
use Rattle.pm_decide.proofs.Privileges.{privilege-none_lacking}
use Rattle.pm_decide.proofs.privilege.Goals as goal

pub returns-clause-answer : goal.returns-clause-answer
returns-clause-answer g c =
    let below = (g.R.Reach.relation c.args.reach.now).below in
    privilege-none_lacking below _ c.args.classes.now c.args.user c.args.right c.args.element
    c.lacking.result c.is_none.result c.lacking.ensures.answer c.is_none.ensures
