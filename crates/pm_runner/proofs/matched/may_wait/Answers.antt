use Rattle.std.proofs.Common.{◌≡◌, false}
use Rattle.pm_runner.proofs.AnyMatch.{outside-targets}
use Rattle.pm_runner.proofs.matched.may_wait.Goals as goal

pub returns-clause-outside : goal.returns-clause-outside
returns-clause-outside g c isnt =
    let given : c.args.targets.now.anywhere ≡ false = cc in
    outside-targets c.args.targets.now (g.R.Reach.relation c.args.reach.now).below c.args.target given
    (rw c.as_slice.ensures at (c.is_in_some.ensures.outside isnt))
