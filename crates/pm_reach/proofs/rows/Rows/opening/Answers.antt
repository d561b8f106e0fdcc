-- The two assignments, one after the other.
use Rattle.std.proofs.Common.{◌∙◌, [], ◌∷◌}
use Rattle.pm_reach.proofs.Openings.{assigned_more, none-assigned, one-assigned}
use Rattle.pm_reach.proofs.rows.Rows.opening.Goals as goal

pub on_assign-requires-clause-x : goal.on_assign-requires-clause-x
on_assign-requires-clause-x c = c.in_ok-rows.ensures.live 2

pub on_assign-requires-clause-y : goal.on_assign-requires-clause-y
on_assign-requires-clause-y c = c.in_ok-rows.ensures.live 1

pub on_assign-requires-2-clause-x : goal.on_assign-requires-2-clause-x
on_assign-requires-2-clause-x c = c.in_ok-on_assign.ensures.rows.live 1 ∙ c.in_ok-rows.ensures.live 1

pub on_assign-requires-2-clause-y : goal.on_assign-requires-2-clause-y
on_assign-requires-2-clause-y c = c.in_ok-on_assign.ensures.rows.live 0 ∙ c.in_ok-rows.ensures.live 0

pub on_assign-requires-clause-apart : goal.on_assign-requires-clause-apart
on_assign-requires-clause-apart c = none-assigned c.in_ok-rows.rows.rows c.in_ok-rows.ensures.live c.in_ok-rows.ensures.rows

pub on_assign-requires-2-clause-apart : goal.on_assign-requires-2-clause-apart
on_assign-requires-2-clause-apart c =
    let one = assigned_more [] c.in_ok-rows.rows.rows c.on_assign.new.self.rows 2 1 (c.in_ok-rows.ensures.live 1) c.in_ok-rows.ensures.rows c.in_ok-on_assign.ensures.rows in
    one-assigned c.on_assign.new.self.rows (λ x. c.in_ok-on_assign.ensures.rows.live x ∙ c.in_ok-rows.ensures.live x) one

pub returns-clause-rows : goal.returns-clause-rows
returns-clause-rows c =
    let one = assigned_more [] c.in_ok-rows.rows.rows c.on_assign.new.self.rows 2 1 (c.in_ok-rows.ensures.live 1) c.in_ok-rows.ensures.rows c.in_ok-on_assign.ensures.rows in
    assigned_more ((2, 1) ∷ []) c.on_assign.new.self.rows c.on_assign-2.new.self.rows 1 0 (c.in_ok-on_assign.ensures.rows.live 0 ∙ c.in_ok-rows.ensures.live 0) one c.in_ok-on_assign-2.ensures.rows
