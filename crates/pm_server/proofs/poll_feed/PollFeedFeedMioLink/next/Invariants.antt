use Rattle.std.proofs.Common.{◌≡◌, ℕ, None}
use Rattle.std.specs.Time.{instant_nanos}
use Rattle.pm_server.specs.Polled.{IsFirst, Stays}
use Rattle.pm_server.specs.declared.poll_feed.Resting.{Resting}
use Rattle.pm_server.proofs.poll_feed.PollFeedFeedMioLink.next.Given as goal

abbrev pub invariant-loop : goal.invariant-loop
invariant-loop g l = record {
  out : l.self.out ≡ None;
  within : (key : ℕ) (rest : Resting) → IsFirst l.fn.self key rest → IsFirst l.self key rest × (l.self.conns ≡ l.fn.self.conns) × (l.self.later ≡ l.fn.self.later);
  stay : Stays (λ r. instant_nanos r.since) l.fn.self l.self;
}
