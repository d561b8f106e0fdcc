use Rattle.std.proofs.Common.{◌≡◌, None}
use Rattle.std.specs.Time.{instant_nanos}
use Rattle.pm_server.specs.Polled.{Stays}
use Rattle.pm_server.proofs.poll_feed.PollFeed.welcome.Given as goal

abbrev pub invariant-loop : goal.invariant-loop
invariant-loop g l = record { out : l.self.out ≡ None; stopped : l.self.stopped ≡ l.fn.self.stopped; stay : Stays (λ r. instant_nanos r.since) l.fn.self l.self }
