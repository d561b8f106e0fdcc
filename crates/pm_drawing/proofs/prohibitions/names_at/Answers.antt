use Rattle.std.proofs.Common.{◌∙◌, ◌++◌, [], ◌∷◌, sym, ap, arith, map, subst}
use Rattle.pm_laws.proofs.Items.{each-at}
use Rattle.pm_model.specs.Formed.{Each, IsLive}
use Rattle.pm_model.specs.State.{name_numbered}
use Rattle.pm_drawing.proofs.Steps.{map-step, take-past}
use Rattle.pm_drawing.proofs.prohibitions.names_at.Goals as goal

pub loop-id-init : goal.loop-id-init
loop-id-init c = c.new-list.ensures

pub name-requires : goal.name-requires
name-requires c =
    each-at (IsLive c.args.elements.now.elements) c.as_slice-id-items.result.now c.id-item.result
    (subst (λ l. Each (IsLive c.args.elements.now.elements) l) (sym c.as_slice-id-items.ensures) c.requires)
    (c.loop-id.id-index, c.loop-id-test.true, sym c.id-item.is)

pub loop-id-preserved : goal.loop-id-preserved
loop-id-preserved c =
    map-step c.as_slice-id-items.result.now c.loop-id.id-index c.id-item.result (name_numbered c.args.elements.now.elements) c.loop-id.list c.push.new.self
    c.loop-id-test.true c.id-item.is c.loop-id.invariant
    (c.in_ok-push.ensures.ok ∙ ap (λ n. c.loop-id.list ++ n ∷ []) c.name.ensures)

pub returns : goal.returns
returns c =
    let past = c.loop-id-test.false in
    c.loop-id.invariant
    ∙ ap (λ l. map (name_numbered c.args.elements.now.elements) l)
    (take-past c.loop-id.id-index c.as_slice-id-items.result.now (omega (arith, past)) ∙ c.as_slice-id-items.ensures)
