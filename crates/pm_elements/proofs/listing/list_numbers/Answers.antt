use Rattle.std.proofs.Common.{◌∙◌, length-drop, arith}
use Rattle.pm_elements.proofs.Numbers.{run_listed, run_within}
use Rattle.pm_elements.proofs.listing.list_numbers.Goals as goal

pub loop-from-preserved : goal.loop-from-preserved
loop-from-preserved c =
    let run = c.run-run.result.now in
    let slots = c.args.slots.now.items in
    let long = run_within run c.loop-from.from slots c.run-run.ensures.items in
    record {
      left = rw (c.in_ok-push_listed.ensures) (run_listed c.args.which c.loop-from.from run slots c.loop-from.list c.run-run.ensures.items) ∙ c.loop-from.invariant.left;
      within = omega (arith, long, c.loop-from-test.true, c.len.ensures, length-drop c.loop-from.from slots);
    }
