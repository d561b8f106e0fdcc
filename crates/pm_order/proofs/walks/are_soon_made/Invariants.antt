use Rattle.std.proofs.Common.{◌≡◌, length, vec_len}
use Rattle.pm_order.specs.Ranked.{AreDue}
use Rattle.pm_order.proofs.walks.are_soon_made.Given as goal

abbrev pub invariant-loop : goal.invariant-loop
invariant-loop l = (vec_len l.made ≡ length l.containers) × AreDue l.containers l.made.items
