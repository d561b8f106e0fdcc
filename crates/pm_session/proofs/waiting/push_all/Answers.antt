use Rattle.std.proofs.Common.{arith}
use Rattle.std.proofs.lemmas.List.{take-append-drop, take_rest}
use Rattle.pm_session.proofs.Pushing.{HasPushed-none, HasPushed-then, take-line}
use Rattle.pm_session.proofs.waiting.push_all.Goals as goal

pub loop-count-init : goal.loop-count-init
loop-count-init c = record { pushed = HasPushed-none _ _ c.requires.kept; within = omega arith; capacity = omega arith }

pub loop-count-preserved : goal.loop-count-preserved
loop-count-preserved c =
    let found = c.in-Some.ensures in
    let up_to = take-line c.args.bytes.now _ c.loop-count.start c.in-Some.count found.0 found.1 in
    let line = rw c.part.ensures at c.push_line.ensures.pushed in
    record {
      pushed = rw up_to (HasPushed-then _ _ _ _ _ _ _ c.loop-count.invariant.pushed line);
      within = omega (arith, found.0);
      capacity = omega arith;
    }

pub returns-clause-pushed : goal.returns-clause-pushed
returns-clause-pushed c =
    let rest = rw take_rest at c.push_part.ensures.pushed in
    let all = take-append-drop c.loop-count.start c.args.bytes.now in
    rw all at (HasPushed-then _ _ _ _ _ _ _ c.loop-count.invariant.pushed rest)
