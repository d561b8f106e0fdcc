use Rattle.std.proofs.Common.{rules}
use Rattle.std.specs.Time.{instant_nanos}
use Rattle.pm_server.specs.Polled.{Stays}
use Rattle.pm_server.proofs.Staying.{stays_from, stays_then}
use Rattle.pm_server.proofs.poll_feed.PollFeed.welcome.Goals.{then-not-take_in, else-not-take_in}
use Rattle.pm_server.proofs.poll_feed.PollFeed.welcome.Goals as goal

-- one more that was left
pub loop-preserved : goal.loop-preserved
loop-preserved g c =
    let taken = stays_from (λ r. instant_nanos r.since) c.loop.self _ c.take_in.new.self c.take_in.ensures.stay (search rules) (search rules) (search rules) in
    let stay = stays_then (λ r. instant_nanos r.since) _ c.loop.self c.take_in.new.self c.loop.invariant.stay taken in
    elim c.if-not-take_in.branch [
      | then-not-take_in w ↦ record { out = search rules; stopped = search rules; stay = search (rules, stay) }
      | else-not-take_in w ↦ record { out = search rules; stopped = search rules; stay = search (rules, stay) }
    ]
