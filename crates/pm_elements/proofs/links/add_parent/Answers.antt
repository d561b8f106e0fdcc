use Rattle.std.proofs.Common.{◌≡◌, Some, sym, ap, ◌∙◌}
use Rattle.std.specs.Option.{option_copied_mut}
use Rattle.std.proofs.lemmas.Result.{on_err_weaker}
use Rattle.pm_elements.specs.Slots.{slot_at}
use Rattle.pm_elements.proofs.Edits.{set_back}
use Rattle.pm_elements.proofs.Shown.{slot_at-read}
use Rattle.pm_elements.proofs.links.add_parent.Goals as goal

pub returns-clause-err : goal.returns-clause-err
returns-clause-err c =
    let here : slot_at c.args.slots.now.items c.number.result ≡ Some c.unwrap-slot.result.now =
    slot_at-read c.args.slots.now.items c.number.result c.edit.result.now c.edit.ensures.value ∙ sym c.as_mut.ensures.value ∙ ap option_copied_mut c.unwrap-slot.ensures in
    on_err_weaker c.push.result (λ same. rw same (set_back c.args.slots.now.items c.number.result c.unwrap-slot.result.now here)) c.push.ensures.err
