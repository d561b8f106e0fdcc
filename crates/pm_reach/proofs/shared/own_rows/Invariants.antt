use Rattle.std.proofs.Common.{◌≡◌, take}
use Rattle.pm_reach.specs.Table.{shown, shown_shared}
use Rattle.pm_reach.proofs.shared.own_rows.Given as goal

abbrev pub invariant-loop-place : goal.invariant-loop-place
invariant-loop-place l = shown l.same.items ≡ shown_shared (take l.place-index l.rows)
