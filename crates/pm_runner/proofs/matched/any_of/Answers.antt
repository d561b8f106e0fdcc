-- One of the run matches, or the answer is that of those behind the run.
use Rattle.std.proofs.Common.{◌∙◌, sym}
use Rattle.pm_pages.proofs.Runs.{any-in_run, any-behind_run}
use Rattle.pm_runner.specs.Standing.{is_match}
use Rattle.pm_runner.proofs.matched.any_of.Goals as goal

pub returns-then-any_among-clause-answer : goal.returns-then-any_among-clause-answer
returns-then-any_among-clause-answer g c =
    any-in_run (is_match (g.R.Reach.relation c.args.reach.now).below c.args.event.now) c.args.obligations.now.items c.obligations_from-run.result.now
    c.loop-begin.begin c.obligations_from-run.ensures.items (sym (rw c.loop-begin.invariant.same at c.if-any_among.ensures.answer)) c.loop-begin.invariant.rest

pub loop-begin-preserved : goal.loop-begin-preserved
loop-begin-preserved g c = record {
  same = c.any_among.ensures.same ∙ c.loop-begin.invariant.same;
  rest = any-behind_run (is_match (g.R.Reach.relation c.args.reach.now).below c.args.event.now) c.args.obligations.now.items c.obligations_from-run.result.now
      c.loop-begin.begin c.obligations_from-run.ensures.items (sym (rw c.loop-begin.invariant.same at c.if-any_among.ensures.answer)) c.loop-begin.invariant.rest;
}
