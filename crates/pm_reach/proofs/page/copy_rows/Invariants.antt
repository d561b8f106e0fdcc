use Rattle.std.proofs.Common.{◌≡◌, take}
use Rattle.pm_reach.specs.Table.{shown}
use Rattle.pm_reach.proofs.page.copy_rows.Given as goal

abbrev pub invariant-loop-place : goal.invariant-loop-place
invariant-loop-place l = shown l.same.items ≡ shown (take l.place-index l.rows)
