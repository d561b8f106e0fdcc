use Rattle.std.proofs.Common.{length, take, drop, ◌-◌, ◌≡◌, ◌≤◌, true, ℕ}
use Rattle.pm_disk.specs.Disks.{Stays}
use Rattle.pm_journal.proofs.fill.fill.Given as goal

abbrev pub invariant-loop-got : goal.invariant-loop-got
invariant-loop-got g l = record {
  within : l.got ≤ length l.piece;
  size : length l.piece ≡ length l.fn.piece;
  at_same : l.at ≡ l.fn.at;
  bytes : g.D.Disk.tells ≡ true → (take l.got l.piece ≡ take l.got (drop l.fn.at (g.D.Disk.content l.fn.disk)));
  most : g.D.Disk.tells ≡ true → l.got ≤ length (g.D.Disk.content l.fn.disk) - l.fn.at;
  stays : g.D.Disk.tells ≡ true → Stays g.D.Disk.content g.D.Disk.may_leave g.D.Disk.moment g.D.Disk.left_since l.fn.disk l.disk;
  faults : g.D.Disk.faults l.disk ≡ g.D.Disk.faults l.fn.disk;
}

abbrev pub decreases-loop-got : goal.decreases-loop-got
decreases-loop-got g l = length l.initial.piece - l.got
