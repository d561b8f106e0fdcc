-- One item more.
use Rattle.std.proofs.Common.{◌≡◌, ◌+◌, false, length, map, nat_lt, take, ap, ◌∙◌, arith, length-append}
use Rattle.std.proofs.lemmas.Grind.{common_steps}
use Rattle.pm_print.specs.Members.{item_text, items_front}
use Rattle.pm_print.proofs.Appending.{appended-then}
use Rattle.pm_print.proofs.ItemTexts.{front_within, items_more}
use Rattle.pm_document_text.proofs.told.add_items.Goals as goal

pub returns-in_err-add_item : goal.returns-in_err-add_item
returns-in_err-add_item g c =
    let told = g.T.Told.told in
    let more = items_more told c.args.items.now c.loop-i.i c.index-items-i.result c.loop-i-test.true c.index-items-i.is in
    let before = items_front false (map told (take c.loop-i.i c.args.items.now)) in
    let last = item_text (nat_lt 0 c.loop-i.i) (told c.index-items-i.result) in
    let longer : length (items_front false (map told (take (c.loop-i.i + 1) c.args.items.now))) ≡ length before + length last = ap length more ∙ length-append before last in
    let within = front_within told false (c.loop-i.i + 1) c.args.items.now in
    grind (arith, common_steps)

pub loop-i-preserved : goal.loop-i-preserved
loop-i-preserved g c =
    let told = g.T.Told.told in
    let more = items_more told c.args.items.now c.loop-i.i c.index-items-i.result c.loop-i-test.true c.index-items-i.is in
    appended-then _ _ _ _ _ _ _ _ _ c.loop-i.invariant c.in_ok-add_item.ensures more (ap length more ∙ length-append _ _)
