-- The row has the same words.
use Rattle.std.proofs.Common.{ap}
use Rattle.pm_reach.specs.Table.{words_in, words_of}
use Rattle.pm_reach.proofs.Tables.{replaced, replaced-same}
use Rattle.pm_reach.proofs.page.share_row.Goals as goal

pub returns-in-Ok-clause-rows : goal.returns-in-Ok-clause-rows
returns-in-Ok-clause-rows c =
    let r = replaced c.args.rows.now.items c.take_row-held.new.rows.items c.put_row.new.rows.items c.args.j c.take_row-held.result _ c.take_row-held.ensures.row c.take_row-held.ensures.rows c.put_row.ensures in
    replaced-same r (ap words_in c.in-Ok.ensures.ok)

pub returns-in-Err-clause-rows : goal.returns-in-Err-clause-rows
returns-in-Err-clause-rows c =
    let r = replaced c.args.rows.now.items c.take_row-held.new.rows.items c.put_row-in-Err.new.rows.items c.args.j c.take_row-held.result _ c.take_row-held.ensures.row c.take_row-held.ensures.rows c.put_row-in-Err.ensures in
    replaced-same r (ap words_of c.in-Err.ensures.err)
