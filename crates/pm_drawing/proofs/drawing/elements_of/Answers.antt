use Rattle.std.proofs.Common.{◌≡◌, ◌∙◌, List, sym, ap, subst}
use Rattle.std.proofs.lemmas.Result.{IfOk-weaker}
use Rattle.pm_laws.proofs.Reviewed.{elements_live}
use Rattle.pm_policy.specs.Order.{sorted, stands_before}
use Rattle.pm_policy.specs.PolicyOf.{policy_elements}
use Rattle.pm_policy.specs.Sound.{AreOnceCalled}
use Rattle.pm_policy.specs.declared.policy.DocElement.{DocElement}
use Rattle.pm_policy.proofs.Drawn.{drawn-once}
use Rattle.pm_drawing.proofs.Whole.{elements-whole}
use Rattle.pm_drawing.proofs.drawing.elements_of.Goals as goal

pub own_elements-requires : goal.own_elements-requires
own_elements-requires c =
    let G = c.args.graph.now in
    rw (c.elements.ensures.elements, c.requires) (elements_live G c.formed.ensures)

pub elements_by_name-requires : goal.elements_by_name-requires
elements_by_name-requires c =
    let G = c.args.graph.now in
    subst (λ es. AreOnceCalled es)
    (sym (c.as_slice.ensures.value ∙ c.in_ok-own.ensures ∙ elements-whole G c.formed.ensures c.elements.result.now.elements c.args.live.now c.elements.ensures.elements c.requires))
    (drawn-once G c.formed.ensures).1.1.1

pub returns : goal.returns
returns c =
    let G = c.args.graph.now in
    let own : c.as_slice.result.now ≡ policy_elements G =
    c.as_slice.ensures.value ∙ c.in_ok-own.ensures ∙ elements-whole G c.formed.ensures c.elements.result.now.elements c.args.live.now c.elements.ensures.elements c.requires in
    IfOk-weaker c.listed.result (λ (list : List DocElement). list ≡ c.as_slice-2.result.now) (λ (list : List DocElement). list ≡ sorted stands_before (policy_elements G))
    (λ list is. is ∙ c.as_slice-2.ensures.value ∙ c.in_ok-by_name.ensures ∙ ap (λ l. sorted stands_before l) own) c.listed.ensures
