use Rattle.std.proofs.Common.{drop, length-drop, arith}
use Rattle.pm_elements.proofs.Bounds.{free_from}
use Rattle.pm_elements.proofs.Placing.{free_within, free_in_run, free_past_run}
use Rattle.pm_elements.proofs.places.first_free.Goals as goal

pub returns-then-n-run-clause-answer : goal.returns-then-n-run-clause-answer
returns-then-n-run-clause-answer c =
    let rest = drop c.loop-before.before c.args.slots.now.items in
    let here = free_in_run c.run-run.result.now rest c.run-run.ensures.items (omega (arith, c.free_in-n.ensures.answer, c.if-n-run.true)) in
    omega (arith, here, c.free_in-n.ensures.answer, c.loop-before.invariant.taken)

pub loop-before-init : goal.loop-before-init
loop-before-init c = record {
  taken = free_from c.args.from c.args.slots.now.items c.requires;
  within = omega (arith, c.requires, free_within c.args.slots.now.items);
}

pub loop-before-preserved : goal.loop-before-preserved
loop-before-preserved c =
    let items = c.args.slots.now.items in
    let past = free_past_run c.run-run.result.now c.loop-before.before items c.run-run.ensures.items (omega (arith, c.free_in-n.ensures.answer, c.if-n-run.false)) in
    record {
      taken = omega (arith, past.0, c.loop-before.invariant.taken);
      within = omega (arith, past.1, c.loop-before-test.true, c.len.ensures, length-drop c.loop-before.before items);
    }
