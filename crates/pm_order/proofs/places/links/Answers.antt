use Rattle.std.proofs.Common.{◌≡◌, ◌<◌, ◌+◌, ◌∙◌, ap, sym, subst, arith, true, [], ◌∷◌, ◌++◌, length, map, take, get_or, bytes_eq, if◌then◌else◌}
use Rattle.std.specs.List.{list_any}
use Rattle.std.proofs.lemmas.List.{length-map, take_more}
use Rattle.pm_policy.specs.Sound.{AreOnce}
use Rattle.pm_policy.specs.declared.policy.DocAssignment.{DocAssignment}
use Rattle.pm_order.specs.Ranked.{containers_of, is_other, place}
use Rattle.pm_order.proofs.Others.{other-told, others-more, IsOther}
use Rattle.pm_order.proofs.Placed.{containers-added, containers_none, found-place, name_known, names_once, place-within}
use Rattle.pm_order.proofs.places.links.Goals as goal

pub loop-pair-init : goal.loop-pair-init
loop-pair-init c = (c.in_ok-containers.ensures ∙ sym (containers_none c.args.elements.now c.args.elements.now), c.new-others.ensures.items)

pub find_near-from-requires : goal.find_near-from-requires
find_near-from-requires c =
    let es = c.args.elements.now in
    let known = c.requires.known c.pair-item.result (c.loop-pair.pair-index, c.loop-pair-test.true, sym c.pair-item.is) in
    record {
      known = subst (λ ns. list_any (bytes_eq c.pair-item.result.from) ns ≡ true) (sym c.in_ok-places.ensures) (name_known es c.pair-item.result.from known.0);
      once = subst (λ ns. AreOnce bytes_eq ns) (sym c.in_ok-places.ensures) (names_once es c.requires.once);
    }

pub find-to-requires : goal.find-to-requires
find-to-requires c =
    let known = c.requires.known c.pair-item.result (c.loop-pair.pair-index, c.loop-pair-test.true, sym c.pair-item.is) in
    subst (λ ns. list_any (bytes_eq c.pair-item.result.to) ns ≡ true) (sym c.in_ok-places.ensures) (name_known c.args.elements.now c.pair-item.result.to known.1)

pub is_other-requires : goal.is_other-requires
is_other-requires c =
    let es = c.args.elements.now in
    let p = c.pair-item.result in
    let known = c.requires.known p (c.loop-pair.pair-index, c.loop-pair-test.true, sym c.pair-item.is) in
    let from : c.find_near-from.result ≡ place es p.from = c.find_near-from.ensures ∙ found-place es c.in_ok-places.places p.from c.in_ok-places.ensures in
    let within : place es p.from < length es = place-within es p.from known.0 in
    let same : length c.loop-pair.containers ≡ length es =
    ap length c.loop-pair.invariant.0 ∙ length-map es (containers_of es (take c.loop-pair.pair-index c.args.pairs.now)) in
    omega (arith, from, within, same)

pub add-requires : goal.add-requires
add-requires c =
    let es = c.args.elements.now in
    let p = c.pair-item.result in
    let known = c.requires.known p (c.loop-pair.pair-index, c.loop-pair-test.true, sym c.pair-item.is) in
    let from : c.find_near-from.result ≡ place es p.from = c.find_near-from.ensures ∙ found-place es c.in_ok-places.places p.from c.in_ok-places.ensures in
    let within : place es p.from < length es = place-within es p.from known.0 in
    let same : length c.loop-pair.containers ≡ length es =
    ap length c.loop-pair.invariant.0 ∙ length-map es (containers_of es (take c.loop-pair.pair-index c.args.pairs.now)) in
    omega (arith, from, within, same)

pub loop-pair-preserved : goal.loop-pair-preserved
loop-pair-preserved c =
    let es = c.args.elements.now in
    let pairs = c.args.pairs.now in
    let p = c.pair-item.result in
    let k = c.loop-pair.pair-index in
    let n = c.args.first in
    let before = map (containers_of es (take k pairs)) es in
    let known = c.requires.known p (k, c.loop-pair-test.true, sym c.pair-item.is) in
    let from : c.find_near-from.result ≡ place es p.from = c.find_near-from.ensures ∙ found-place es c.in_ok-places.places p.from c.in_ok-places.ensures in
    let to : c.find-to.result ≡ place es p.to = c.find-to.ensures ∙ found-place es c.in_ok-places.places p.to c.in_ok-places.ensures in
    let more : take k pairs ++ p ∷ [] ≡ take (k + 1) pairs =
    ap (λ (q : DocAssignment). take k pairs ++ q ∷ []) c.pair-item.is ∙ sym (take_more pairs k p c.loop-pair-test.true) in
    let wanted : c.is_other.result ≡ IsOther es pairs c.requires.once c.requires.known c.requires.assigned n p = c.is_other.ensures
    ∙ ap (λ l. is_other n c.find_near-from.result (get_or l c.find_near-from.result [])) c.loop-pair.invariant.0
    ∙ ap (λ i. is_other n i (get_or before i [])) from
    ∙ other-told es pairs c.requires.once c.requires.known c.requires.assigned n k p c.loop-pair-test.true c.pair-item.is in (
      c.in_ok-add.ensures
          ∙ containers-added es (take k pairs) p c.loop-pair.containers c.find_near-from.result c.find-to.result c.loop-pair.invariant.0 from to c.requires.once known.0
          ∙ ap (λ l. map (containers_of es l) es) more,
      c.in_ok-push_if.ensures ∙ ap (λ l. l ++ (if c.is_other.result then p ∷ [] else [])) c.loop-pair.invariant.1
          ∙ others-more es pairs c.requires.once c.requires.known c.requires.assigned n k p c.is_other.result c.loop-pair-test.true c.pair-item.is wanted,
    )
