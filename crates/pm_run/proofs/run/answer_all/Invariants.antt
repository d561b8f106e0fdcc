use Rattle.std.proofs.Common.{◌≡◌, ◌-◌, ◌≤◌}
use Rattle.pm_model.specs.History.{state_of}
use Rattle.pm_run.specs.Ended.{Running}
use Rattle.pm_run.proofs.run.answer_all.Given as goal

abbrev pub invariant-loop-total : goal.invariant-loop-total
invariant-loop-total g l =
    record {
      running : Running (g.I.Source.left l.initial.source) (g.I.Source.left l.source) (g.O.Sink.taken l.initial.out) (g.O.Sink.taken l.out)
          (state_of (g.M.Answerer.machine l.machine)) l.session.waiting l.session.output l.total;
      within : l.total ≤ l.limit;
      read : g.I.Source.faults l.source ≡ g.I.Source.faults l.initial.source;
      unended : g.I.Source.ends l.source ≡ g.I.Source.ends l.initial.source;
      written : g.O.Sink.faults l.out ≡ g.O.Sink.faults l.initial.out;
    }

abbrev pub decreases-loop-total : goal.decreases-loop-total
decreases-loop-total g l = l.limit - l.total
