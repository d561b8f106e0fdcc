use Rattle.pm_house.specs.Desks.{NeverFails}
use Rattle.pm_worker.proofs.Working.{works_turn}
use Rattle.pm_worker.proofs.feeds.work.Goals as goal

-- another turn
pub loop-preserved : goal.loop-preserved
loop-preserved g c = record {
  out = c.back.ensures;
  works = works_turn (NeverFails g.K.Keep.faults) c.args.seat.now c.loop.seat c.serve-served.new.seat _ _ _ _ _ c.loop.invariant.works c.serve-served.ensures.serves;
}
