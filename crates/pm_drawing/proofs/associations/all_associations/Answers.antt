use Rattle.pm_model.specs.Decision.{associations_of}
use Rattle.pm_drawing.specs.Gathered.{is_of_attribute}
use Rattle.pm_drawing.proofs.Steps.{gathered-step}
use Rattle.pm_drawing.proofs.associations.all_associations.Goals as goal

pub loop-id-preserved : goal.loop-id-preserved
loop-id-preserved c =
    gathered-step is_of_attribute (associations_of c.args.assoc.now.grantees) c.args.live.now c.loop-id.id-index c.id-item.result c.loop-id.list.items
    c.push_associations.new.list.items c.loop-id-test.true c.id-item.is c.loop-id.invariant c.in_ok-push_associations.ensures
