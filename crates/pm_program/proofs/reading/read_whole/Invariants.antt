use Rattle.std.proofs.Common.{◌≤◌, ◌-◌, length}
use Rattle.pm_program.specs.Reading.{Took}
use Rattle.pm_program.proofs.reading.read_whole.Given as goal

abbrev pub invariant-loop-piece : goal.invariant-loop-piece
invariant-loop-piece g l =
    record {
      took : Took (record { left = g.I.Source.left l.initial.source; faults = g.I.Source.faults l.initial.source; ends = g.I.Source.ends l.initial.source })
          (record { left = g.I.Source.left l.source; faults = g.I.Source.faults l.source; ends = g.I.Source.ends l.source }) l.input.items;
      within : length l.input.items ≤ l.limit;
    }

abbrev pub decreases-loop-piece : goal.decreases-loop-piece
decreases-loop-piece g l = l.limit - l.input.len
