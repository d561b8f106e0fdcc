-- The pages of the first containers are the list's own.
use Rattle.std.proofs.Common.{◌≡◌, ◌<◌, ℕ, Some, slice_get}
use Rattle.pm_pages.specs.Paged.{IsOwn, Keeps}
use Rattle.pm_elements.specs.Slots.{slot_at, parents_of}
use Rattle.pm_elements.proofs.removal.own_parents.Given as goal

abbrev pub invariant-loop-i : goal.invariant-loop-i
invariant-loop-i l = record {
  items : l.slots.items ≡ l.initial.slots.items;
  keeps : Keeps l.initial.slots l.slots;
  own : (k y : ℕ) → k < l.i → slice_get (parents_of (slot_at l.initial.slots.items l.id)) k ≡ Some y → IsOwn l.slots y;
  alone : l.slots.alone ≡ l.initial.slots.alone;
}
