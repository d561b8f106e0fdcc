use Rattle.std.proofs.Common.{◌≡◌, ◌-◌, drop, length}
use Rattle.std.specs.List.{position_from}
use Rattle.pm_model.specs.Obligations.{is_called}
use Rattle.pm_oblig.proofs.items.place.Given as goal

-- the answer to all is the answer to what is left
abbrev pub invariant-loop-begin : goal.invariant-loop-begin
invariant-loop-begin l = position_from (is_called l.name) 0 l.items.items ≡ position_from (is_called l.name) l.begin (drop l.begin l.items.items)

abbrev pub decreases-loop-begin : goal.decreases-loop-begin
decreases-loop-begin l = length l.items.items - l.begin
