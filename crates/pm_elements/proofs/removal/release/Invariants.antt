-- What is left to release, from here, is all from the start; each slot taken at the start is taken; and nothing else is
-- written.
use Rattle.std.proofs.Common.{◌≡◌, ℕ, drop, is_some}
use Rattle.pm_elements.specs.Slots.{slot_at, released}
use Rattle.pm_elements.proofs.removal.release.Given as goal

abbrev pub invariant-loop-parent : goal.invariant-loop-parent
invariant-loop-parent l = record {
  left : released (drop l.parent-index l.parents) l.slots.items ≡ released l.parents l.initial.slots.items;
  taken : (y : ℕ) → is_some (slot_at l.slots.items y) ≡ is_some (slot_at l.initial.slots.items y);
  own : l.slots.own ≡ l.initial.slots.own;
  alone : l.slots.alone ≡ l.initial.slots.alone;
}
