use Rattle.std.proofs.Common.{◌≤◌, ◌+◌, ◌-◌}
use Rattle.pm_io.specs.Wires.{IsQuiet}
use Rattle.pm_house.specs.Desks.{NeverFails}
use Rattle.pm_worker.specs.Turns.{Turning}
use Rattle.pm_worker.proofs.serving.serve.Given as goal

abbrev pub invariant-loop-share : goal.invariant-loop-share
invariant-loop-share g l =
    record {
      turning : Turning (NeverFails g.K.Keep.faults) l.fn.seat l.seat l.fn.session l.session (g.L.Link.wire l.fn.link) (g.L.Link.wire l.link) l.share l.total;
      quiet : IsQuiet (g.L.Link.wire l.fn.link) (g.L.Link.wire l.link);
      few : l.share ≤ 127;
      short : l.total ≤ 69632;
    }

abbrev pub decreases-loop-share : goal.decreases-loop-share
decreases-loop-share g l = (64 - l.share) + (65536 - l.total)
