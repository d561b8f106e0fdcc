use Rattle.std.proofs.Common.{◌≡◌, ℕ, false, get_or, length, Contains}
use Rattle.pm_order.proofs.turns.first_unmade.Given as goal

abbrev pub invariant-loop-place : goal.invariant-loop-place
invariant-loop-place l =
    ((i : ℕ) → Contains l.fn.places i → get_or l.made i false ≡ false → Contains l.places i)
    × ((i : ℕ) → Contains l.places i → Contains l.fn.places i)

abbrev pub decreases-loop-place : goal.decreases-loop-place
decreases-loop-place l = length l.places
