use Rattle.std.proofs.Common.{◌≡◌}
use Rattle.pm_kept.proofs.places.share_all.Given as goal

abbrev pub invariant-loop-i : goal.invariant-loop-i
invariant-loop-i l = l.items.items ≡ l.initial.items.items
