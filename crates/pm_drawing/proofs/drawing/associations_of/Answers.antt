use Rattle.std.proofs.Common.{◌≡◌, ◌∙◌, List, refl, map}
use Rattle.std.proofs.lemmas.Result.{IfOk-weaker}
use Rattle.pm_policy.specs.Order.{sorted}
use Rattle.pm_policy.specs.PolicyOf.{policy_associations}
use Rattle.pm_policy.specs.Requests.{joins_before}
use Rattle.pm_policy.specs.declared.policy.DocAssociation.{DocAssociation}
use Rattle.pm_drawing.specs.Gathered.{association_named}
use Rattle.pm_drawing.proofs.Whole.{grants-live, grants-once, grants-sorted, grants-whole}
use Rattle.pm_drawing.proofs.drawing.associations_of.Goals as goal

pub by_ends-requires-clause-live : goal.by_ends-requires-clause-live
by_ends-requires-clause-live c =
    rw (c.elements.ensures.elements, c.as_slice.ensures.value, c.in_ok-all.ensures, c.assoc.ensures, c.requires) (grants-live c.args.graph.now c.formed.ensures)

pub by_ends-requires-clause-rights : goal.by_ends-requires-clause-rights
by_ends-requires-clause-rights c = rw c.rights.ensures c.formed.ensures.rights.once

pub by_ends-requires-clause-once : goal.by_ends-requires-clause-once
by_ends-requires-clause-once c =
    rw (c.elements.ensures.elements, c.rights.ensures, c.as_slice.ensures.value, c.in_ok-all.ensures, c.assoc.ensures, c.requires)
    (grants-once c.args.graph.now c.formed.ensures)

pub returns : goal.returns
returns c =
    let G = c.args.graph.now in
    let all : c.as_slice.result.now ≡ grants-whole G c.formed.ensures =
    rw (c.as_slice.ensures.value, c.in_ok-all.ensures, c.assoc.ensures, c.requires) refl in
    IfOk-weaker c.by_ends.result
    (λ (list : List DocAssociation). list ≡ sorted joins_before (map (association_named c.elements.result.now.elements c.rights.result.now) c.as_slice.result.now))
    (λ (list : List DocAssociation). list ≡ sorted joins_before (policy_associations G))
    (λ list is. is ∙ rw (c.elements.ensures.elements, c.rights.ensures, all) (grants-sorted G c.formed.ensures)) c.by_ends.ensures
