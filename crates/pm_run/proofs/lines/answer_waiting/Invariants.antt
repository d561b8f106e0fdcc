use Rattle.std.proofs.Common.{◌≡◌, length}
use Rattle.pm_model.specs.History.{state_of}
use Rattle.pm_run.specs.Coming.{coming}
use Rattle.pm_run.specs.Wrote.{Answered}
use Rattle.pm_run.proofs.lines.answer_waiting.Given as goal

abbrev pub invariant-loop-asked : goal.invariant-loop-asked
invariant-loop-asked g l =
    record {
      answered : Answered (g.O.Sink.taken l.initial.out) (g.O.Sink.taken l.out) l.session.output
          (state_of (g.M.Answerer.machine l.initial.machine)) (state_of (g.M.Answerer.machine l.machine)) (coming l.initial.session.waiting) (coming l.session.waiting);
      kept : g.O.Sink.faults l.out ≡ g.O.Sink.faults l.initial.out;
    }

abbrev pub decreases-loop-asked : goal.decreases-loop-asked
decreases-loop-asked g l = length l.session.waiting
