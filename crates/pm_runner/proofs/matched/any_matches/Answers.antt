use Rattle.std.proofs.Common.{List, nat_lt, length, refl, sym, ap, ◌∙◌}
use Rattle.pm_model.specs.declared.obligations.Obligation.{Obligation}
use Rattle.pm_runner.specs.Standing.{is_match}
use Rattle.pm_runner.proofs.AnyMatch.{any-left}
use Rattle.pm_runner.proofs.matched.any_matches.Goals as goal

pub returns-then-not-may_match-clause-answer : goal.returns-then-not-may_match-clause-answer
returns-then-not-may_match-clause-answer g c =
    ap (λ (left : List Obligation). nat_lt 0 (length left)) (sym (c.if-not-may_match.ensures.none refl))

pub returns-clause-answer : goal.returns-clause-answer
returns-clause-answer g c =
    rw c.may_match.ensures.same at c.any_of.ensures.answer
    ∙ any-left (is_match (g.R.Reach.relation c.args.reach.now).below c.args.event.now) c.args.obligations.now.items
