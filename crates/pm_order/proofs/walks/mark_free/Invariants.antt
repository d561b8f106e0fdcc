use Rattle.std.proofs.Common.{◌≡◌, vec_len}
use Rattle.pm_order.specs.Ranked.{AreDue}
use Rattle.pm_order.proofs.walks.mark_free.Given as goal

abbrev pub invariant-loop-place : goal.invariant-loop-place
invariant-loop-place l = (vec_len l.made ≡ vec_len l.fn.made) × (AreDue l.containers l.fn.made.items → AreDue l.containers l.made.items)
