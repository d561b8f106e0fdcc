use Rattle.std.proofs.Common.{◌≡◌, ◌<◌, ◌∙◌, ℕ, ap, sym, subst, length, map, Contains, Vec, Global}
use Rattle.std.specs.List.{range_with_len}
use Rattle.std.proofs.lemmas.Result.{IfOk-weaker}
use Rattle.pm_policy.specs.Order.{sorted}
use Rattle.pm_policy.specs.Requests.{joins_before}
use Rattle.pm_by_name.specs.Keyed.{association_in, cmp_both, ends_key, places_by}
use Rattle.pm_by_name.proofs.ByName.{associations_once, associations_sorted}
use Rattle.pm_by_name.proofs.Ordered.{rising_sorted}
use Rattle.pm_by_name.proofs.Places.{all-below, all-there, places_below}
use Rattle.pm_by_name.proofs.by_name.associations_by_name.Goals as goal

pub returns-then-are_in_order-clause-order : goal.returns-then-are_in_order-clause-order
returns-then-are_in_order-clause-order c =
    let all = c.args.associations.now in
    IfOk-weaker c.all_places.result (λ (v : Vec ℕ Global). v.items ≡ range_with_len 0 (length all))
    (λ (v : Vec ℕ Global). map (association_in all) v.items ≡ sorted joins_before all)
    (λ v is. ap (λ l. map (association_in all) l) is
    ∙ all-there all _ ∙ sym (rising_sorted joins_before all (c.are_in_order.ensures.0 c.if-are_in_order.true)))
    c.all_places.ensures

pub returns-then-are_in_order-clause-places : goal.returns-then-are_in_order-clause-places
returns-then-are_in_order-clause-places c =
    let all = c.args.associations.now in
    IfOk-weaker c.all_places.result (λ (v : Vec ℕ Global). v.items ≡ range_with_len 0 (length all))
    (λ (v : Vec ℕ Global). (k : ℕ) → Contains v.items k → k < length all)
    (λ v is k there. all-below (length all) k (subst (λ l. Contains l k) is there))
    c.all_places.ensures

pub places_by_name-requires : goal.places_by_name-requires
places_by_name-requires c = associations_once c.args.associations.now c.requires

pub returns-clause-order : goal.returns-clause-order
returns-clause-order c =
    let all = c.args.associations.now in
    IfOk-weaker c.places_by_name.result (λ (v : Vec ℕ Global). v.items ≡ places_by cmp_both ends_key all)
    (λ (v : Vec ℕ Global). map (association_in all) v.items ≡ sorted joins_before all)
    (λ v is. ap (λ l. map (association_in all) l) is ∙ associations_sorted all)
    c.places_by_name.ensures

pub returns-clause-places : goal.returns-clause-places
returns-clause-places c =
    let all = c.args.associations.now in
    IfOk-weaker c.places_by_name.result (λ (v : Vec ℕ Global). v.items ≡ places_by cmp_both ends_key all)
    (λ (v : Vec ℕ Global). (k : ℕ) → Contains v.items k → k < length all)
    (λ v is k there. places_below cmp_both ends_key all k (subst (λ l. Contains l k) is there))
    c.places_by_name.ensures
