-- The row has the same words.
use Rattle.std.proofs.Common.{◌∙◌, ap}
use Rattle.std.proofs.lemmas.Result.{on_ok_weaker}
use Rattle.pm_reach.specs.Table.{words_of}
use Rattle.pm_reach.proofs.Tables.{replaced, replaced-same, replaced-room, replaced-stays, own-room}
use Rattle.pm_reach.proofs.page.ready_row.Goals as goal

pub returns-in-Ok-clause-rows : goal.returns-in-Ok-clause-rows
returns-in-Ok-clause-rows c =
    let r = replaced c.args.rows.now.items c.take_row-held.new.rows.items c.put_row.new.rows.items c.args.j c.take_row-held.result _ c.take_row-held.ensures.row c.take_row-held.ensures.rows c.put_row.ensures in
    replaced-same r (c.reserve-result.ensures.words ∙ c.in-Ok.ensures.ok)

pub returns-in-Ok-clause-room : goal.returns-in-Ok-clause-room
returns-in-Ok-clause-room c =
    let r = replaced c.args.rows.now.items c.take_row-held.new.rows.items c.put_row.new.rows.items c.args.j c.take_row-held.result _ c.take_row-held.ensures.row c.take_row-held.ensures.rows c.put_row.ensures in
    on_ok_weaker c.reserve-result.result (replaced-room r c.args.n) c.reserve-result.ensures.room

pub returns-in-Ok-clause-stays : goal.returns-in-Ok-clause-stays
returns-in-Ok-clause-stays c =
    let r = replaced c.args.rows.now.items c.take_row-held.new.rows.items c.put_row.new.rows.items c.args.j c.take_row-held.result _ c.take_row-held.ensures.row c.take_row-held.ensures.rows c.put_row.ensures in
    replaced-stays r (own-room c.take_row-held.result c.in-Ok.row _ c.in-Ok.ensures.own c.reserve-result.ensures.grown)

pub returns-in-Err-clause-rows : goal.returns-in-Err-clause-rows
returns-in-Err-clause-rows c =
    let r = replaced c.args.rows.now.items c.take_row-held.new.rows.items c.put_row-in-Err.new.rows.items c.args.j c.take_row-held.result _ c.take_row-held.ensures.row c.take_row-held.ensures.rows c.put_row-in-Err.ensures in
    replaced-same r (ap words_of c.in-Err.ensures.err)

pub returns-in-Err-clause-stays : goal.returns-in-Err-clause-stays
returns-in-Err-clause-stays c =
    let r = replaced c.args.rows.now.items c.take_row-held.new.rows.items c.put_row-in-Err.new.rows.items c.args.j c.take_row-held.result _ c.take_row-held.ensures.row c.take_row-held.ensures.rows c.put_row-in-Err.ensures in
    replaced-stays r (λ n h. rw c.in-Err.ensures.err h)
