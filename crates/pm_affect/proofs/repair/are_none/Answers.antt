use Rattle.std.proofs.Common.{sym, ◌∙◌}
use Rattle.std.proofs.lemmas.Bool.{eqb-true}
use Rattle.pm_affect.proofs.Rows.{none_of_near}
use Rattle.pm_affect.proofs.repair.are_none.Goals as goal

pub returns : goal.returns
returns c = λ none below u those.
    none_of_near below c.args.region.now u c.args.columns.now.near.now c.args.columns.now.all.now (sym c.if-is_wide.ensures)
    (sym c.len-2.ensures ∙ eqb-true c.len-2.result 0 none) those
