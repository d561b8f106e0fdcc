use Rattle.std.proofs.Common.{ℕ, ◌*◌, ◌<◌}
use Rattle.pm_server.specs.KeySets.{HasKey}
use Rattle.pm_server.proofs.keys.Keys.is_empty.Given as goal

abbrev pub invariant-loop-place : goal.invariant-loop-place
invariant-loop-place l = (k : ℕ) → k < 64 * l.place → ¬ HasKey l.fn.self k
