use Rattle.std.proofs.Common.{◌≡◌, ℕ, ◌*◌, ◌<◌}
use Rattle.pm_server.specs.KeySets.{HasKey}
use Rattle.pm_server.proofs.keys.Keys.take_first.Given as goal

abbrev pub invariant-loop-place : goal.invariant-loop-place
invariant-loop-place l = record {
  same : l.self-inside.words ≡ l.fn.self.words;
  none : (k : ℕ) → k < 64 * l.place → ¬ HasKey l.fn.self k;
}
