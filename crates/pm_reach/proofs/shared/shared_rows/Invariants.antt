use Rattle.std.proofs.Common.{◌≡◌, take}
use Rattle.pm_reach.specs.Table.{shown, shown_shared}
use Rattle.pm_reach.proofs.shared.shared_rows.Given as goal

abbrev pub invariant-loop-place : goal.invariant-loop-place
invariant-loop-place l = shown_shared l.same.items ≡ shown (take l.place-index l.rows)
