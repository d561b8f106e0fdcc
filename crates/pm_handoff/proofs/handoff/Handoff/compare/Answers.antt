use Rattle.std.proofs.Common.{ap, ◌∙◌}
use Rattle.crossbeam_queue.specs.Passes.{Pass, view}
use Rattle.pm_handoff.specs.declared.rule.Known.{Known}
use Rattle.pm_handoff.specs.Ends.{End}
use Rattle.pm_handoff.proofs.Order.{admits_blank, joins, parts, first_in}
use Rattle.pm_handoff.proofs.handoff.Handoff.compare.Goals as goal

pub another-spare-requires-clause-rule : goal.another-spare-requires-clause-rule
another-spare-requires-clause-rule g c = admits_blank _ _ _

pub absorb-requires-clause-rule : goal.absorb-requires-clause-rule
absorb-requires-clause-rule g c = joins _ _ _ _ _ (ap (λ (v : Known). v.gives) c.another-spare.ensures.rule.0 ∙ c.giver.invariant.0)
    (ap (λ (p : Pass g.row.T.Denot Known). (view p).takes) c.replace-taking.ensures.value ∙ c.taker.invariant.0)

pub another-requires-clause-rule : goal.another-requires-clause-rule
another-requires-clause-rule g c = parts _ _ _ (ap (λ (v : Known). v.gives) (c.learn_as.ensures.queue.1 ∙ c.absorb.ensures.rule)) (ap (λ (v : Known). v.takes) (c.learn_as.ensures.queue.1 ∙ c.absorb.ensures.rule))

pub returns-clause-in_order : goal.returns-clause-in_order
returns-clause-in_order g c = first_in _ _ _ _ _
    (ap (λ (v : Known). v.given) c.absorb.ensures.rule ∙ ap (λ (v : Known). v.given) c.another-spare.ensures.rule.0 ∙ ap (λ (e : End). e.given) c.giver.view_is)
    (ap (λ (v : Known). v.taken) c.absorb.ensures.rule ∙ ap (λ (p : Pass g.row.T.Denot Known). (view p).taken) c.replace-taking.ensures.value ∙ ap (λ (e : End). e.taken) c.taker.view_is)
    c.learn_as.ensures.rule
