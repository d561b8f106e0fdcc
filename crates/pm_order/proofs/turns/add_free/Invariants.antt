use Rattle.std.proofs.Common.{◌↔◌, ◌⊎◌, ℕ, take, Contains}
use Rattle.pm_order.specs.Ranked.{IsFree}
use Rattle.pm_order.proofs.turns.add_free.Given as goal

abbrev pub invariant-loop-place : goal.invariant-loop-place
invariant-loop-place l =
    (i : ℕ) → Contains l.free i ↔ (Contains l.fn.free i ⊎ (Contains (take l.place-index l.places) i × IsFree l.containers l.made i))
