use Rattle.std.proofs.Common.{◌≡◌, ◌∙◌, [], ap, sym, subst, map, get_or, Contains, Vec, Global}
use Rattle.std.proofs.lemmas.Result.{IfOk-weaker}
use Rattle.pm_policy.specs.Order.{sorted, leads_before}
use Rattle.pm_policy.specs.declared.policy.DocAssignment.{DocAssignment}
use Rattle.pm_by_name.specs.Keyed.{AreAt, cmp_both, assignment_key}
use Rattle.pm_by_name.proofs.ByName.{assignments_once, assignments_sorted}
use Rattle.pm_by_name.proofs.Ordered.{rising_sorted}
use Rattle.pm_by_name.proofs.Places.{places_below}
use Rattle.pm_by_name.proofs.by_name.assignments_by_name.Goals as goal

pub returns-then-are_in_order : goal.returns-then-are_in_order
returns-then-are_in_order c =
    c.in_ok-from_slice.ensures.items ∙ sym (rising_sorted leads_before c.args.pairs.now (c.are_in_order.ensures.0 c.if-are_in_order.true))

pub places_by_name-requires : goal.places_by_name-requires
places_by_name-requires c = assignments_once c.args.pairs.now c.requires

pub items_at-requires : goal.items_at-requires
items_at-requires c k there =
    let same = c.as_slice.ensures.value ∙ c.in_ok-places.ensures in
    places_below cmp_both assignment_key c.args.pairs.now k (subst (λ l. Contains l k) same there)

pub returns : goal.returns
returns c =
    let all = c.args.pairs.now in
    let first : DocAssignment = record { from = []; to = [] } in
    let same = c.as_slice.ensures.value ∙ c.in_ok-places.ensures in
    IfOk-weaker c.items_at.result (λ (v : Vec DocAssignment Global). AreAt all c.as_slice.result.now v.items)
    (λ (v : Vec DocAssignment Global). v.items ≡ sorted leads_before all)
    (λ v at. at first ∙ ap (λ l. map (λ k. get_or all k first) l) same ∙ assignments_sorted all first)
    c.items_at.ensures
