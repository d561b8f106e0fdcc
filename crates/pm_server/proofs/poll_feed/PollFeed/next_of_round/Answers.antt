use Rattle.std.proofs.Common.{rules, ◌≡◌, Some}
use Rattle.pm_server.proofs.poll_feed.PollFeed.next_of_round.Goals as goal

pub returns-clause-some : goal.returns-clause-some
returns-clause-some g c = rw (← c.self.view_is) (
  search rules,
  record {
    key = c.in_ok-key.key;
    rest = c.in_ok-conn.field-0;
    taken = c.in_ok-key.ensures;
    held = search rules;
    is = search rules;
    goes = record { gone = search rules; place = search rules; later = search rules };
  },
)
