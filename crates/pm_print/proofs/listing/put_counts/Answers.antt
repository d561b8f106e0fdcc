-- One item more.
use Rattle.std.proofs.Common.{◌<◌, ◌+◌, false, length, map, take, get_or, arith}
use Rattle.std.proofs.lemmas.Grind.{common_steps}
use Rattle.std.specs.List.{zip}
use Rattle.pm_print.proofs.Appending.{appended-then}
use Rattle.pm_print.proofs.ItemTexts.{items_more, zip_item, counted}
use Rattle.pm_model.specs.Text.{count_told}
use Rattle.pm_print.specs.Members.{items_front}
use Rattle.pm_print.proofs.listing.put_counts.Goals as goal

pub returns-in_err-put_count : goal.returns-in_err-put_count
returns-in_err-put_count g c =
    let long = counted c.args.users.now c.args.counts.now in
    let within : c.loop-i.i < length (zip c.args.users.now c.args.counts.now) = omega (arith, c.loop-i-test.true, c.min-i-end.ensures, long) in
    grind (arith, common_steps)

pub loop-i-preserved : goal.loop-i-preserved
loop-i-preserved g c =
    let told = count_told (g.N.NameOf.name_at c.args.names.now) in
    let user = c.index-users-i.result in
    let count = get_or c.args.counts.now c.loop-i.i 0 in
    let within : c.loop-i.i < length c.args.users.now = omega (arith, c.loop-i-test.true, c.min-i-end.ensures) in
    let inside : c.loop-i.i < length c.args.counts.now = omega (arith, c.loop-i-test.true, c.min-i-end.ensures) in
    let item = zip_item c.args.users.now c.args.counts.now c.loop-i.i user within inside c.index-users-i.is in
    let list = zip c.args.users.now c.args.counts.now in
    let more = items_more told list c.loop-i.i (user, count) item.0 item.1 in
    let front = items_front false (map told (take (c.loop-i.i + 1) list)) in
    let name = c.name_of-name.ensures in
    appended-then _ _ _ _ _ front _ _ _ c.loop-i.invariant (rw name at c.in_ok-put_count.ensures) more (omega arith)

pub returns : goal.returns
returns g c =
    let long = counted c.args.users.now c.args.counts.now in
    grind (arith, common_steps)
