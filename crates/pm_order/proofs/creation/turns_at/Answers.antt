use Rattle.std.proofs.Common.{◌∙◌, ◌++◌, ◌∷◌, [], List, ℕ, Option, ap, sym, get_or, map, take}
use Rattle.std.proofs.lemmas.List.{map-append, take_more}
use Rattle.std.proofs.lemmas.List.Elements.{Contains-get_or}
use Rattle.pm_policy.specs.declared.policy.DocElement.{DocElement}
use Rattle.pm_order.specs.Ranked.{element_in, turn_at}
use Rattle.pm_order.proofs.Others.{turn-of}
use Rattle.pm_order.proofs.creation.turns_at.Goals as goal

pub element_at-element-requires : goal.element_at-element-requires
element_at-element-requires c =
    let places = c.args.places.now in
    let k = c.loop-place.place-index in
    c.requires.places (get_or places k 0) (Contains-get_or places k 0 c.loop-place-test.true)

pub into_at-into-requires-clause-place : goal.into_at-into-requires-clause-place
into_at-into-requires-clause-place c =
    let places = c.args.places.now in
    let k = c.loop-place.place-index in
    c.requires.places (get_or places k 0) (Contains-get_or places k 0 c.loop-place-test.true)

pub loop-place-preserved : goal.loop-place-preserved
loop-place-preserved c =
    let es = c.args.elements.now in
    let above = c.args.above.now in
    let places = c.args.places.now in
    let k = c.loop-place.place-index in
    c.in_ok-push.ensures.items
    ∙ ap (λ (e : DocElement). c.loop-place.turns.items ++ turn-of e c.into_at-into.result ∷ []) c.element_at-element.ensures
    ∙ ap (λ (o : Option (List ℕ)). c.loop-place.turns.items ++ turn-of (element_in es (get_or places k 0)) o ∷ []) c.into_at-into.ensures
    ∙ ap (λ l. l ++ turn_at es above (get_or places k 0) ∷ []) c.loop-place.invariant
    ∙ sym (map-append (turn_at es above) (take k places) (get_or places k 0 ∷ [])) ∙ ap (λ l. map (turn_at es above) l) (sym (take_more places k 0 c.loop-place-test.true))
