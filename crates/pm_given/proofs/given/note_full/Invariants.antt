-- The places so far are those of the words so far.
use Rattle.std.proofs.Common.{◌≡◌, ◌≤◌, length, take}
use Rattle.pm_given.proofs.Above.{AreNotedTo}
use Rattle.pm_given.proofs.given.note_full.Given as goal

abbrev pub invariant-loop-k : goal.invariant-loop-k
invariant-loop-k l = record {
  most : l.count ≤ l.k;
  fits : l.count ≤ length l.places;
  long : length l.places ≡ length l.fn.places;
  noted : AreNotedTo l.k (take l.count l.places) l.words;
}
