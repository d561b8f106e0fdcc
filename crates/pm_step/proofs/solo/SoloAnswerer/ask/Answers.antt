use Rattle.std.proofs.Common.{subst}
use Rattle.pm_model.specs.Formed.{IsWellFormed}
use Rattle.pm_step.proofs.Telling.{names-live}
use Rattle.pm_step.proofs.solo.SoloAnswerer.ask.Goals as goal

pub returns-clause-named : goal.returns-clause-named
returns-clause-named g c =
    names-live c.self.inside.state _ _ c.in_ok-reply.reply (subst IsWellFormed c.graph.ensures c.formed.ensures) c.in_ok-reply.ensures.ok
