use Rattle.std.proofs.Common.{ap}
use Rattle.pm_handoff.specs.declared.rule.Known.{Known}
use Rattle.pm_handoff.proofs.Order.{begins, parts}
use Rattle.pm_handoff.proofs.handoff.Handoff.new.Goals as goal

pub ruled-requires-clause-rule : goal.ruled-requires-clause-rule
ruled-requires-clause-rule g c = begins

pub another-other-requires-clause-rule : goal.another-other-requires-clause-rule
another-other-requires-clause-rule g c = parts _ _ _ (ap (λ (v : Known). v.gives) c.in_ok-line.ensures.3) (ap (λ (v : Known). v.takes) c.in_ok-line.ensures.3)
