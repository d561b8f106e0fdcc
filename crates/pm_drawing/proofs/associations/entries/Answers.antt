use Rattle.std.proofs.Common.{◌∙◌, ◌++◌, [], ◌∷◌, ap, sym}
use Rattle.pm_laws.proofs.Items.{each-at}
use Rattle.pm_model.specs.declared.rights.Association.{Association}
use Rattle.pm_by_name.specs.declared.by_name.ByBytes.{ByBytes}
use Rattle.pm_drawing.specs.Gathered.{JoinsLive, ends_entry}
use Rattle.pm_drawing.proofs.Steps.{map-step}
use Rattle.pm_drawing.proofs.associations.entries.Goals as goal

pub by_bytes-ua-requires : goal.by_bytes-ua-requires
by_bytes-ua-requires c =
    (each-at (JoinsLive c.args.elements.now.elements) c.args.associations.now c.association-item.result c.requires
    (c.loop-association.association-index, c.loop-association-test.true, sym c.association-item.is)).0

pub by_bytes-at-requires : goal.by_bytes-at-requires
by_bytes-at-requires c =
    (each-at (JoinsLive c.args.elements.now.elements) c.args.associations.now c.association-item.result c.requires
    (c.loop-association.association-index, c.loop-association-test.true, sym c.association-item.is)).1

pub loop-association-preserved : goal.loop-association-preserved
loop-association-preserved c =
    let a = c.association-item.result in
    map-step c.args.associations.now c.loop-association.association-index a (ends_entry c.args.elements.now.elements) c.loop-association.entries.items
    c.push.new.self.items c.loop-association-test.true c.association-item.is c.loop-association.invariant
    (c.in_ok-push.ensures.items
    ∙ ap (λ (k : ByBytes). c.loop-association.entries.items ++ (let e : (ByBytes × ByBytes) × Association = ((k, c.by_bytes-at.result), a) in e) ∷ []) c.by_bytes-ua.ensures
    ∙ ap (λ (k : ByBytes). c.loop-association.entries.items ++ (let e : (ByBytes × ByBytes) × Association = (((ends_entry c.args.elements.now.elements a).0.0, k), a) in e) ∷ []) c.by_bytes-at.ensures)
