use Rattle.std.proofs.Common.{◌≡◌, ◌∙◌, ◌+◌, ap, sym, subst, bytes_eq, map, take}
use Rattle.std.proofs.lemmas.List.{take_all}
use Rattle.indexmap.specs.IndexSet.{insert_key}
use Rattle.pm_policy.specs.declared.policy.DocElement.{DocElement}
use Rattle.pm_order.proofs.Placed.{names_more}
use Rattle.pm_order.proofs.places.Places.new.Goals as goal

pub loop-element-preserved : goal.loop-element-preserved
loop-element-preserved c =
    let es = c.args.elements.now in
    let k = c.loop-element.element-index in
    let more = names_more es k c.element-item.result c.requires c.loop-element-test.true in
    c.in_ok-insert.ensures.keys ∙ ap (λ ks. insert_key bytes_eq ks c.element-item.result.name) c.loop-element.invariant
    ∙ subst (λ (d : DocElement). insert_key bytes_eq (map (λ (e : DocElement). e.name) (take k es)) d.name ≡ map (λ (e : DocElement). e.name) (take (k + 1) es))
    (sym c.element-item.is) more

pub returns : goal.returns
returns c =
    c.loop-element.invariant
    ∙ ap (λ l. map (λ (e : DocElement). e.name) l) (take_all c.loop-element.element-index c.args.elements.now c.loop-element-test.false)
