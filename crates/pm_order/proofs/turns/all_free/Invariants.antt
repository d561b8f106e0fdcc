use Rattle.std.proofs.Common.{◌<◌, ◌↔◌, ℕ, Contains}
use Rattle.pm_order.specs.Ranked.{IsFree}
use Rattle.pm_order.proofs.turns.all_free.Given as goal

abbrev pub invariant-loop-place : goal.invariant-loop-place
invariant-loop-place l = (i : ℕ) → Contains l.free i ↔ ((i < l.place) × IsFree l.containers l.made i)
