use Rattle.std.proofs.Common.{◌≡◌, ◌∙◌, false, refl, sym, subst, get_or, []}
use Rattle.std.proofs.lemmas.List.{get_or_default}
use Rattle.pm_model.specs.declared.elements.Kind.TheVariants.{Pc}
use Rattle.pm_order.specs.Ranked.{element_in}
use Rattle.pm_policy.specs.Policy.{doc_element}
use Rattle.pm_policy.specs.declared.policy.DocElement.{DocElement}
use Rattle.pm_sound.specs.Tests.{has_any}
use Rattle.pm_sound.proofs.Tied.{all-contained, not-contained}
use Rattle.pm_sound.proofs.order.all_contained.Goals as goal

pub returns-then-not-has_container : goal.returns-then-not-has_container
returns-then-not-has_container c pairs same =
    let es = c.args.elements.now in
    let i = c.loop-place.place in
    let item : c.index-elements-place.result ≡ element_in es i =
    c.index-elements-place.is ∙ get_or_default es i c.index-elements-place.result (doc_element Pc []) c.loop-place-test.true in
    let none : has_any (element_in es i) (get_or c.args.above.now i []) ≡ false =
    subst (λ (e : DocElement). has_any e (get_or c.args.above.now i []) ≡ false) item (sym c.has_container.ensures ∙ c.if-not-has_container.true) in
    (λ yes. absurd (cc), λ h. absurd (not-contained i es c.args.above.now pairs c.loop-place-test.true same none h))

pub returns : goal.returns
returns c pairs same =
    (λ yes. all-contained c.loop-place.place c.args.elements.now c.args.above.now pairs c.loop-place-test.false same c.loop-place.invariant, λ h. refl)
