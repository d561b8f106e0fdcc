-- One item more.
use Rattle.std.proofs.Common.{arith}
use Rattle.std.proofs.lemmas.Grind.{common_steps}
use Rattle.pm_print.proofs.Appending.{appended-then}
use Rattle.pm_print.proofs.ItemTexts.{items_more}
use Rattle.pm_model.specs.Text.{change_told}
use Rattle.pm_print.proofs.listing.put_changes.Goals as goal

pub returns-in_err-put_change : goal.returns-in_err-put_change
returns-in_err-put_change c = grind (arith, common_steps)

pub loop-i-preserved : goal.loop-i-preserved
loop-i-preserved c =
    let more = items_more change_told c.args.changes.now c.loop-i.i c.index-changes-i.result c.loop-i-test.true c.index-changes-i.is in
    appended-then _ _ _ _ _ _ _ _ _ c.loop-i.invariant c.in_ok-put_change.ensures more (omega arith)

pub returns : goal.returns
returns c = grind (arith, common_steps)
