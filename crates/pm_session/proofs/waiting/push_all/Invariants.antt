use Rattle.std.proofs.Common.{◌≤◌, ◌-◌, length, take}
use Rattle.std.specs.Prelude.{vec_capacity}
use Rattle.pm_session.specs.Waiting.{HasPushed}
use Rattle.pm_session.proofs.waiting.push_all.Given as goal

abbrev pub invariant-loop-count : goal.invariant-loop-count
invariant-loop-count l = record {
  pushed : HasPushed l.initial.waiting.items l.waiting.items l.tail (take l.start l.bytes);
  within : l.start ≤ length l.bytes;
  capacity : vec_capacity l.initial.waiting ≤ vec_capacity l.waiting;
}

abbrev pub decreases-loop-count : goal.decreases-loop-count
decreases-loop-count l = length l.bytes - l.start
