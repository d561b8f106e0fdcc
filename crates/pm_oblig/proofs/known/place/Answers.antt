use Rattle.pm_oblig.specs.Awaited.{is_of}
use Rattle.pm_pages.proofs.Runs.{place-in_run, place-behind_run}
use Rattle.pm_oblig.proofs.known.place.Goals as goal

pub returns-in-Some-clause-value : goal.returns-in-Some-clause-value
returns-in-Some-clause-value c =
    place-in_run (is_of c.args.operation) c.args.known.now.items c.run-run.result.now c.loop-begin.begin c.run-run.ensures.items
    c.in-Some.i c.in-Some.ensures.value c.loop-begin.invariant

pub loop-begin-preserved : goal.loop-begin-preserved
loop-begin-preserved c =
    place-behind_run (is_of c.args.operation) c.args.known.now.items c.run-run.result.now c.loop-begin.begin c.run-run.ensures.items
    (c.in_default.ensures.value) c.loop-begin.invariant
