use Rattle.std.proofs.Common.{◌≡◌, ◌-◌, drop, length}
use Rattle.std.specs.List.{position_from}
use Rattle.pm_oblig.specs.Awaited.{is_of}
use Rattle.pm_oblig.proofs.known.place.Given as goal

-- the answer to all is the answer to what is left
abbrev pub invariant-loop-begin : goal.invariant-loop-begin
invariant-loop-begin l = position_from (is_of l.operation) 0 l.known.items ≡ position_from (is_of l.operation) l.begin (drop l.begin l.known.items)

abbrev pub decreases-loop-begin : goal.decreases-loop-begin
decreases-loop-begin l = length l.known.items - l.begin
