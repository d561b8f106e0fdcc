use Rattle.std.proofs.Common.{◌≡◌, ◌<◌, ◌≤◌, ◌∙◌, ◌-◌, ◌++◌, ℕ, ap, sym, subst, arith, length, map, replicate, true, false, drop, Contains}
use Rattle.std.proofs.lemmas.List.{length-map}
use Rattle.pm_policy.specs.Order.{sorted, stands_before}
use Rattle.pm_policy.specs.Policy.{standing}
use Rattle.pm_policy.specs.Requests.{others}
use Rattle.pm_policy.specs.Sound.{AreOnceCalled}
use Rattle.pm_policy.specs.Waiting.{AreKnown}
use Rattle.pm_order.specs.Ranked.{containers, containers_of, ranked, turn, turn_at, AreWithin}
use Rattle.pm_order.proofs.Least.{ranked-within}
use Rattle.pm_order.proofs.Others.{others-sorted, turns-told}
use Rattle.pm_order.proofs.Placed.{containers-within}
use Rattle.pm_order.proofs.Ranks.{turns-same}
use Rattle.pm_order.proofs.Standing.{elements_alone, standing_known, standing_once, standing_order}
use Rattle.pm_order.proofs.in_order.order.Goals as goal

pub standing_by_name-requires : goal.standing_by_name-requires
standing_by_name-requires c = elements_alone c.args.elements.now c.requires.once

pub links-requires : goal.links-requires
links-requires c =
    let es = c.args.elements.now in
    let all : c.as_slice.result.now ≡ standing (sorted stands_before es) =
    c.as_slice.ensures.value ∙ c.in_ok-all.ensures in
    record {
      once = subst (λ l. AreOnceCalled l) (sym all) (standing_once es c.requires.once);
      known = subst (λ l. AreKnown c.args.pairs.now l) (sym all) (standing_known es c.args.pairs.now c.requires.known);
      assigned = c.requires.assigned;
    }

pub turns-requires-clause-within : goal.turns-requires-clause-within
turns-requires-clause-within c =
    let es = c.args.elements.now in
    let pairs = c.args.pairs.now in
    let all : c.as_slice.result.now ≡ standing (sorted stands_before es) =
    c.as_slice.ensures.value ∙ c.in_ok-all.ensures in
    let known = subst (λ l. AreKnown pairs l) (sym all) (standing_known es pairs c.requires.known) in
    subst (λ l. AreWithin l) (sym (c.lists.ensures ∙ c.in_ok-containers.ensures.containers)) (containers-within c.as_slice.result.now pairs known)

pub turns_at-requires-clause-places : goal.turns_at-requires-clause-places
turns_at-requires-clause-places c k there =
    let lists : c.lists.result.now ≡ containers c.as_slice.result.now c.args.pairs.now = c.lists.ensures ∙ c.in_ok-containers.ensures.containers in
    let many : length c.lists.result.now ≡ length c.as_slice.result.now =
    ap length lists ∙ length-map c.as_slice.result.now (containers_of c.as_slice.result.now c.args.pairs.now) in
    let same : length c.as_slice-2.result.now ≡ length c.as_slice.result.now = ap length (c.as_slice-2.ensures.value ∙ sym c.as_slice.ensures.value) in
    let n = length c.lists.result.now - 3 in
    let within = ranked-within c.lists.result.now n (replicate 3 true ++ replicate n false) k (subst (λ l. Contains l k) (c.as_slice-3.ensures.value ∙ c.in_ok-places.ensures) there) in
    omega (arith, within, many, same)

pub turns_at-requires-clause-within : goal.turns_at-requires-clause-within
turns_at-requires-clause-within c =
    let es = c.args.elements.now in
    let pairs = c.args.pairs.now in
    let all : c.as_slice.result.now ≡ standing (sorted stands_before es) =
    c.as_slice.ensures.value ∙ c.in_ok-all.ensures in
    let known = subst (λ l. AreKnown pairs l) (sym all) (standing_known es pairs c.requires.known) in
    subst (λ l. AreWithin l) (sym c.in_ok-containers.ensures.containers) (containers-within c.as_slice.result.now pairs known)

pub returns-clause-turns : goal.returns-clause-turns
returns-clause-turns c =
    let es = c.args.elements.now in
    let pairs = c.args.pairs.now in
    let S = standing (sorted stands_before es) in
    let once = standing_once es c.requires.once in
    let known = standing_known es pairs c.requires.known in
    let all : c.as_slice.result.now ≡ S =
    c.as_slice.ensures.value ∙ c.in_ok-all.ensures in
    let again : c.as_slice-2.result.now ≡ S = c.as_slice-2.ensures.value ∙ sym c.as_slice.ensures.value ∙ all in
    let above : c.in_ok-containers.containers ≡ containers S pairs = c.in_ok-containers.ensures.containers ∙ ap (λ l. containers l pairs) all in
    let opening : 3 ≤ length S = omega arith in
    let n = length S - 3 in
    let ranks = ranked (containers S pairs) n (replicate 3 true ++ replicate n false) in
    let places : c.as_slice-3.result.now ≡ ranks =
    c.as_slice-3.ensures.value ∙ c.in_ok-places.ensures
    ∙ ap (λ l. ranked l (length l - 3) (replicate 3 true ++ replicate (length l - 3) false)) (c.lists.ensures ∙ above)
    ∙ ap (λ m. ranked (containers S pairs) (m - 3) (replicate 3 true ++ replicate (m - 3) false)) (length-map S (containers_of S pairs)) in
    let within : (k : ℕ) → Contains ranks k → k < length S =
    λ k there. let low = ranked-within (containers S pairs) n (replicate 3 true ++ replicate n false) k there in
    let many = length-map S (containers_of S pairs) in omega (arith, low, many) in
    c.in_ok-turns.ensures ∙ ap (λ l. map (turn_at l c.in_ok-containers.containers) c.as_slice-3.result.now) again
    ∙ ap (λ l. map (turn_at S l) c.as_slice-3.result.now) above ∙ ap (λ l. map (turn_at S (containers S pairs)) l) places
    ∙ turns-told S pairs once known c.requires.assigned ranks within
    ∙ ap (λ l. map (turn pairs) l) (sym (turns-same pairs S once known 3 opening) ∙ standing_order es pairs)

pub returns-clause-others : goal.returns-clause-others
returns-clause-others c =
    let es = c.args.elements.now in
    let pairs = c.args.pairs.now in
    let all : c.as_slice.result.now ≡ standing (sorted stands_before es) =
    c.as_slice.ensures.value ∙ c.in_ok-all.ensures in
    c.in_ok-containers.ensures.others ∙ ap (λ l. others (drop 3 l) pairs) all ∙ others-sorted es pairs
