use Rattle.std.proofs.Common.{◌≡◌, true, is_some, sym, ap, ◌∙◌}
use Rattle.pm_elements.specs.Slots.{slot_at}
use Rattle.pm_elements.proofs.Shown.{slot_taken, slot_at-read}
use Rattle.pm_elements.proofs.slots.taken_slot.Goals as goal

pub unwrap-requires : goal.unwrap-requires
unwrap-requires c =
    let slots = c.args.slots.now.items in
    let here = slot_at-read slots c.number.result c.at.result.now c.at.ensures in
    let taken : is_some (slot_at slots c.number.result) ≡ true = rw c.number.ensures (slot_taken slots c.args.id c.requires) in
    c.as_ref.ensures.variant ∙ ap is_some (sym here) ∙ taken

pub returns : goal.returns
returns c =
    let slots = c.args.slots.now.items in
    let here = slot_at-read slots c.number.result c.at.result.now c.at.ensures in
    cc (here, c.number.ensures, c.as_ref.ensures.value, c.unwrap.ensures)
