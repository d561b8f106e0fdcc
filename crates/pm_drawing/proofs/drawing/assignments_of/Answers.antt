use Rattle.std.proofs.Common.{◌≡◌, ◌∙◌, List, ap, refl}
use Rattle.std.proofs.lemmas.Result.{IfOk-weaker}
use Rattle.pm_laws.proofs.Reviewed.{elements_live}
use Rattle.pm_policy.specs.Order.{leads_before, sorted}
use Rattle.pm_policy.specs.PolicyOf.{policy_assignments}
use Rattle.pm_policy.specs.declared.policy.DocAssignment.{DocAssignment}
use Rattle.pm_drawing.proofs.Whole.{pairs-live, pairs-once, pairs-sorted, pairs-shown}
use Rattle.pm_drawing.proofs.drawing.assignments_of.Goals as goal

pub all_pairs-requires : goal.all_pairs-requires
all_pairs-requires c =
    let G = c.args.graph.now in
    rw (c.elements.ensures.elements, c.requires) (elements_live G c.formed.ensures)

pub own_assignments-requires : goal.own_assignments-requires
own_assignments-requires c =
    let G = c.args.graph.now in
    rw (c.elements-2.ensures.elements, c.as_slice.ensures.value, c.in_ok-pairs.ensures, c.elements.ensures.assigned, c.requires) (pairs-live G c.formed.ensures)

pub assignments_by_name-requires : goal.assignments_by_name-requires
assignments_by_name-requires c =
    let G = c.args.graph.now in
    rw (c.as_slice-2.ensures.value, c.in_ok-own.ensures, c.elements-2.ensures.elements, c.as_slice.ensures.value, c.in_ok-pairs.ensures, c.elements.ensures.assigned, c.requires)
    (pairs-once G c.formed.ensures)

pub returns : goal.returns
returns c =
    let G = c.args.graph.now in
    let own : c.as_slice-2.result.now ≡ pairs-shown G c.formed.ensures =
    rw (c.as_slice-2.ensures.value, c.in_ok-own.ensures, c.elements-2.ensures.elements, c.as_slice.ensures.value, c.in_ok-pairs.ensures, c.elements.ensures.assigned, c.requires) refl in
    IfOk-weaker c.listed.result (λ (list : List DocAssignment). list ≡ c.as_slice-3.result.now) (λ (list : List DocAssignment). list ≡ sorted leads_before (policy_assignments G))
    (λ list is. is ∙ c.as_slice-3.ensures.value ∙ c.in_ok-by_name.ensures ∙ ap (λ l. sorted leads_before l) own ∙ pairs-sorted G c.formed.ensures) c.listed.ensures
