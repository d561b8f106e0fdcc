use Rattle.std.proofs.Common.{ℕ, Option, None, Some, ◌≡◌, true, false}
use Rattle.pm_model.specs.Obligations.{is_in_given}
use Rattle.pm_oblig.specs.Awaited.{may_have}
use Rattle.pm_runner.proofs.AnyMatch.{none-match}
use Rattle.pm_runner.proofs.matched.may_match.Goals as goal

pub returns-in-Some-clause-none : goal.returns-in-Some-clause-none
returns-in-Some-clause-none g c isnt =
    none-match (g.R.Reach.relation c.args.reach.now).below c.args.event.now (Some c.in-Some.targets.now)
    (c.may_wait.ensures.outside isnt) c.args.obligations.now.items c.in-Some.ensures

pub returns-in-None-clause-none : goal.returns-in-None-clause-none
returns-in-None-clause-none g c isnt =
    none-match (g.R.Reach.relation c.args.reach.now).below c.args.event.now None nothing c.args.obligations.now.items c.in-None.ensures where
      nothing : (given : Option ℕ) → may_have None given ≡ true → is_in_given (g.R.Reach.relation c.args.reach.now).below given c.args.event.now.target ≡ false
      nothing given had = cc
