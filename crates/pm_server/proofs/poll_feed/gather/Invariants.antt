-- What the events so far tell is gathered.
use Rattle.std.proofs.Common.{◌≡◌, take, length}
use Rattle.std.specs.List.{list_any}
use Rattle.mio.specs.Events.{items}
use Rattle.pm_server.specs.KeySets.{HasAddedAll, is_told}
use Rattle.pm_server.proofs.poll_feed.gather.Given as goal

abbrev pub invariant-loop-event : goal.invariant-loop-event
invariant-loop-event l = record {
  woken : l.woken ≡ list_any (is_told 1024) (take (length l.yielded) (items l.events));
  ready : HasAddedAll l.fn.ready l.ready (take (length l.yielded) (items l.events));
}
