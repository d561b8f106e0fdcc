use Rattle.std.proofs.Common.{◌≡◌, ◌<◌, ◌≤◌, ◌+◌, ◌*◌, true, length}
use Rattle.pm_disk.specs.Disks.{Stays}
use Rattle.pm_journal.specs.Reading.{AreRead}
use Rattle.pm_journal.proofs.reading.read_entries.Given as goal

abbrev pub invariant-loop-count : goal.invariant-loop-count
invariant-loop-count g l = record {
  window : length l.window.items ≡ 8210;
  entries : length l.entries ≡ l.count;
  most : l.count ≤ 262144;
  place : l.at ≤ 8 + 8209 * l.count;
  there : g.D.Disk.tells ≡ true → l.at < length (g.D.Disk.content l.fn.disk);
  read : g.D.Disk.tells ≡ true → AreRead l.at l.count (g.D.Disk.content l.fn.disk) l.entries;
  stays : g.D.Disk.tells ≡ true → Stays g.D.Disk.content g.D.Disk.may_leave g.D.Disk.moment g.D.Disk.left_since l.fn.disk l.disk;
  faults : g.D.Disk.faults l.disk ≡ g.D.Disk.faults l.fn.disk;
}
