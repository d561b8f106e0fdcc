-- A prohibition of the run denies, or the answer is that of those behind the run.
use Rattle.std.proofs.Common.{arith, ◌∙◌}
use Rattle.pm_decide.proofs.Runs.{place-in, place-past, run-within}
use Rattle.pm_decide.proofs.prohibitions.first_applying.Goals as goal

pub returns-in-Some-clause-answer : goal.returns-in-Some-clause-answer
returns-in-Some-clause-answer g c =
    place-in _ _ c.prohibitions_from-run.result.now c.loop-start.start c.prohibitions_from-run.ensures.items c.loop-start.invariant.rest
    c.in-Some.i (rw c.loop-start.invariant.same at c.in-Some.ensures.answer)

pub loop-start-preserved : goal.loop-start-preserved
loop-start-preserved g c =
    let run = c.prohibitions_from-run.result.now in
    let lent = c.prohibitions_from-run.ensures.items in
    record {
      within = run-within _ run c.loop-start.start lent (omega arith);
      same = c.first_among.ensures.same ∙ c.loop-start.invariant.same;
      rest = place-past _ _ run c.loop-start.start lent c.loop-start.invariant.rest
          (rw c.loop-start.invariant.same at c.in_default.ensures.answer);
    }
