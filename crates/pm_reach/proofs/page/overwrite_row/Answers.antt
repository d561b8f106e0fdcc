-- The row has what the other has, and nothing else.
use Rattle.std.proofs.Common.{◌∙◌, refl, sym}
use Rattle.pm_reach.proofs.Tables.{written, replaced-old, replaced-new}
use Rattle.pm_reach.proofs.page.overwrite_row.Goals as goal

pub overwrite-requires : goal.overwrite-requires
overwrite-requires c q h =
    let r = written c.args.rows.now.items c.args.j _ c.index_mut.result.now c.in-Some-Own.row c.requires.ready c.index_mut.ensures.value c.in-Some-Own.is c.in-Some-Own.field-0-is in
    sym (replaced-old r q) ∙ c.requires.less q h

pub returns-clause-row : goal.returns-clause-row
returns-clause-row c q =
    let r = written c.args.rows.now.items c.args.j _ c.index_mut.result.now (record { words = c.overwrite.new.words }) c.requires.ready c.index_mut.ensures.value c.in-Some-Own.is c.in-Some-Own.field-0-is in
    replaced-new r q ∙ c.overwrite.ensures q

pub returns-clause-live : goal.returns-clause-live
returns-clause-live c =
    let r = written c.args.rows.now.items c.args.j _ c.index_mut.result.now (record { words = c.overwrite.new.words }) c.requires.ready c.index_mut.ensures.value c.in-Some-Own.is c.in-Some-Own.field-0-is in
    rw (r.is) refl

pub returns-clause-others : goal.returns-clause-others
returns-clause-others c =
    let r = written c.args.rows.now.items c.args.j _ c.index_mut.result.now (record { words = c.overwrite.new.words }) c.requires.ready c.index_mut.ensures.value c.in-Some-Own.is c.in-Some-Own.field-0-is in
    r.others
