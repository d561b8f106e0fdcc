use Rattle.std.proofs.Common.{rules, ℕ}
use Rattle.pm_server.specs.KeySets.{HasKey}
use Rattle.pm_server.proofs.poll_feed.PollFeed.refill.Goals as goal

-- the round has no key
pub returns-then-is_empty-clause-within : goal.returns-then-is_empty-clause-within
returns-then-is_empty-clause-within g c = λ key rest first.
    let none : (k : ℕ) → ¬ HasKey c.self.inside.round k = search rules in
    let due : HasKey c.self.inside.round key = rw (← c.self.view_is) at first.due in
    absurd (none key due)
