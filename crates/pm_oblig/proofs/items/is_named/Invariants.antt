use Rattle.std.proofs.Common.{◌≡◌, ◌-◌, drop, length}
use Rattle.std.specs.List.{list_any}
use Rattle.pm_model.specs.Obligations.{concerns}
use Rattle.pm_oblig.proofs.items.is_named.Given as goal

-- the answer to all is the answer to what is left
abbrev pub invariant-loop-begin : goal.invariant-loop-begin
invariant-loop-begin l = list_any (concerns l.id) l.items.items ≡ list_any (concerns l.id) (drop l.begin l.items.items)

abbrev pub decreases-loop-begin : goal.decreases-loop-begin
decreases-loop-begin l = length l.items.items - l.begin
