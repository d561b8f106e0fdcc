-- The row has more.
use Rattle.std.proofs.Common.{◌∙◌, refl}
use Rattle.pm_reach.proofs.Tables.{written, replaced-old, replaced-new}
use Rattle.pm_reach.proofs.page.join_row.Goals as goal

pub returns-clause-row : goal.returns-clause-row
returns-clause-row c q =
    let r = written c.args.rows.now.items c.args.j _ c.index_mut.result.now (record { words = c.join.new.words }) c.requires c.index_mut.ensures.value c.in-Some-Own.is c.in-Some-Own.field-0-is in
    rw (replaced-old r q) (replaced-new r q ∙ c.join.ensures q)

pub returns-clause-live : goal.returns-clause-live
returns-clause-live c =
    let r = written c.args.rows.now.items c.args.j _ c.index_mut.result.now (record { words = c.join.new.words }) c.requires c.index_mut.ensures.value c.in-Some-Own.is c.in-Some-Own.field-0-is in
    rw (r.is) refl

pub returns-clause-others : goal.returns-clause-others
returns-clause-others c =
    let r = written c.args.rows.now.items c.args.j _ c.index_mut.result.now (record { words = c.join.new.words }) c.requires c.index_mut.ensures.value c.in-Some-Own.is c.in-Some-Own.field-0-is in
    r.others
