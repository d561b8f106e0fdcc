use Rattle.std.proofs.Common.{◌≡◌, Some, slice_get, arith}
use Rattle.std.proofs.lemmas.Option.{slice_get_within}
use Rattle.pm_elements.specs.Slots.{slot_at, parents_of}
use Rattle.pm_elements.proofs.Shown.{slot_at-below}
use Rattle.pm_elements.proofs.removal.own_parents.Goals as goal

pub own_at-requires : goal.own_at-requires
own_at-requires c =
    let items = c.args.slots.now.items in
    let is : slice_get (parents_of (slot_at items c.args.id)) c.loop-i.i ≡ Some c.parent_at-parent.result = rw (← c.loop-i.invariant.items) c.parent_at-parent.ensures in
    rw (c.loop-i.invariant.items, c.number.ensures) (slot_at-below items c.parent_at-parent.result (c.requires.parents_live c.loop-i.i c.parent_at-parent.result is))

pub returns-clause-ok : goal.returns-clause-ok
returns-clause-ok c = λ i y is.
    let within = slice_get_within (parents_of (slot_at c.args.slots.now.items c.args.id)) i y is in
    c.loop-i.invariant.own i y (omega (arith, within, c.parent_count-i-end.ensures, c.loop-i-test.false)) is
