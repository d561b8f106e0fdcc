-- One item more.
use Rattle.std.proofs.Common.{arith}
use Rattle.std.proofs.lemmas.Grind.{common_steps}
use Rattle.pm_print.proofs.Appending.{appended-then}
use Rattle.pm_print.proofs.ItemTexts.{items_more}
use Rattle.pm_model.specs.Text.{pair_told}
use Rattle.pm_print.proofs.listing.put_pairs.Goals as goal

pub returns-in_err-put_pair : goal.returns-in_err-put_pair
returns-in_err-put_pair g c = grind (arith, common_steps)

pub loop-i-preserved : goal.loop-i-preserved
loop-i-preserved g c =
    let told = pair_told (g.N.NameOf.name_at c.args.names.now) in
    let more = items_more told c.args.pairs.now c.loop-i.i c.index-pairs-i.result c.loop-i-test.true c.index-pairs-i.is in
    let name = c.name_of-name.ensures in
    appended-then _ _ _ _ _ _ _ _ _ c.loop-i.invariant (rw name at c.in_ok-put_pair.ensures) more (omega arith)

pub returns : goal.returns
returns g c = grind (arith, common_steps)
