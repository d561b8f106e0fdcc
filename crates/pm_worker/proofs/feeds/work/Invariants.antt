use Rattle.std.proofs.Common.{◌≡◌, None}
use Rattle.pm_house.specs.Desks.{NeverFails}
use Rattle.pm_worker.specs.Feeding.{Works}
use Rattle.pm_worker.proofs.feeds.work.Given as goal

abbrev pub invariant-loop : goal.invariant-loop
invariant-loop g l = record { out : g.F.Feed.out l.feed ≡ None; works : Works (NeverFails g.K.Keep.faults) l.fn.seat l.seat }
