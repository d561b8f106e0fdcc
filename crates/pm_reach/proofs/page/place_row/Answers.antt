use Rattle.std.proofs.Common.{arith, ◌<◌, length}
use Rattle.pm_reach.proofs.Tables.{set-row, set-others}
use Rattle.pm_reach.proofs.page.place_row.Goals as goal

pub returns-clause-row : goal.returns-clause-row
returns-clause-row c =
    let fits : c.args.j < length c.lengthen.new.rows.items = omega (arith, c.lengthen.ensures.long, c.lengthen.new.rows.ok.0) in
    set-row c.lengthen.new.rows.items c.put_row.new.rows.items c.args.j _ fits c.put_row.ensures

pub returns-clause-others : goal.returns-clause-others
returns-clause-others c = set-others c.args.rows.now.items c.lengthen.new.rows.items c.put_row.new.rows.items c.args.j _ c.lengthen.ensures.same c.put_row.ensures
