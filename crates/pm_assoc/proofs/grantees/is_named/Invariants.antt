use Rattle.std.proofs.Common.{◌≡◌, ◌-◌, drop, length}
use Rattle.std.specs.List.{list_any}
use Rattle.pm_assoc.specs.Grantees.{mentions}
use Rattle.pm_assoc.proofs.grantees.is_named.Given as goal

-- the answer to all is the answer to what is left
abbrev pub invariant-loop-begin : goal.invariant-loop-begin
invariant-loop-begin l = list_any (mentions l.id) l.grantees.items ≡ list_any (mentions l.id) (drop l.begin l.grantees.items)

abbrev pub decreases-loop-begin : goal.decreases-loop-begin
decreases-loop-begin l = length l.grantees.items - l.begin
