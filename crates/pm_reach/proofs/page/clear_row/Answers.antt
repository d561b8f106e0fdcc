use Rattle.std.proofs.Common.{None, refl}
use Rattle.pm_reach.proofs.Tables.{set-row, set-others, option_at-within}
use Rattle.pm_reach.proofs.page.clear_row.Goals as goal

pub returns-clause-none : goal.returns-clause-none
returns-clause-none c =
    set-row c.args.rows.now.items c.take_row-row.new.rows.items c.args.j None (option_at-within c.args.rows.now.items c.args.j c.requires) c.take_row-row.ensures.rows

pub returns-clause-others : goal.returns-clause-others
returns-clause-others c = set-others c.args.rows.now.items c.args.rows.now.items c.take_row-row.new.rows.items c.args.j None (λ i. refl) c.take_row-row.ensures.rows
