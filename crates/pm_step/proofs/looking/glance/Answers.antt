use Rattle.std.proofs.Common.{sym, ◌∙◌}
use Rattle.pm_step.proofs.Glancing.{granted_glanced}
use Rattle.pm_step.proofs.looking.glance.Goals as goal

pub returns-in-Ok-Granted-clause-ok : goal.returns-in-Ok-Granted-clause-ok
returns-in-Ok-Granted-clause-ok g c =
    let granted = rw c.in-Ok-Granted.field-0-is at c.in-Ok-Granted.ensures in
    granted_glanced _ c.args.request.now _ c.at_grant.result (sym c.only_asks.ensures ∙ c.if-not-only_asks.false)
    granted.answer granted.ahead granted.reached c.at_grant.ensures
