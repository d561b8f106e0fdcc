use Rattle.std.proofs.Common.{take}
use Rattle.pm_by_name.specs.Keyed.{AreAt}
use Rattle.pm_by_name.proofs.by_name.items_at.Given as goal

abbrev pub invariant-loop-place : goal.invariant-loop-place
invariant-loop-place g l = AreAt l.items (take l.place-index l.places) l.list.items
