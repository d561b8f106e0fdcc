use Rattle.pm_house.specs.Desks.{NeverFails}
use Rattle.pm_worker.proofs.Working.{serves_any}
use Rattle.pm_worker.proofs.served.Served.serve.Goals as goal

-- the seat that served it, before and now
pub returns-clause-served : goal.returns-clause-served
returns-clause-served g c = record {
  before = c.args.seat.now;
  now = c.serve_turn-turn.new.seat;
  session = c.args.conn.session;
  link = g.L.Link.wire c.args.conn.link;
  serves = serves_any (NeverFails g.K.Keep.faults) _ _ _ _ _ _ _ c.serve_turn-turn.ensures.serves;
}
