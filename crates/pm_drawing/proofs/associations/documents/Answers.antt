use Rattle.std.proofs.Common.{◌∙◌, ◌++◌, [], ◌∷◌, ap, sym}
use Rattle.pm_laws.proofs.Items.{each-at}
use Rattle.pm_drawing.specs.Gathered.{JoinsLive, association_named}
use Rattle.pm_drawing.proofs.Steps.{map-step}
use Rattle.pm_drawing.proofs.associations.documents.Goals as goal

pub document_of-requires-clause-live : goal.document_of-requires-clause-live
document_of-requires-clause-live c =
    each-at (JoinsLive c.args.elements.now.elements) c.args.associations.now c.association-item.result c.requires.live
    (c.loop-association.association-index, c.loop-association-test.true, sym c.association-item.is)

pub loop-association-preserved : goal.loop-association-preserved
loop-association-preserved c =
    map-step c.args.associations.now c.loop-association.association-index c.association-item.result
    (association_named c.args.elements.now.elements c.args.rights.now) c.loop-association.list c.push.new.self
    c.loop-association-test.true c.association-item.is c.loop-association.invariant
    (c.in_ok-push.ensures.ok ∙ ap (λ a. c.loop-association.list ++ a ∷ []) c.in_ok-document_of.ensures)
