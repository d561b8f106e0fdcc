use Rattle.std.proofs.Common.{sym}
use Rattle.pm_laws.proofs.Items.{each-at}
use Rattle.pm_model.specs.Effect.{is_from}
use Rattle.pm_model.specs.Formed.{IsLive}
use Rattle.pm_drawing.proofs.Steps.{gathered-step}
use Rattle.pm_drawing.proofs.assignments.all_pairs.Goals as goal

pub push_containers-requires : goal.push_containers-requires
push_containers-requires c =
    each-at (IsLive c.args.elements.now.elements) c.args.live.now c.id-item.result c.requires (c.loop-id.id-index, c.loop-id-test.true, sym c.id-item.is)

pub loop-id-preserved : goal.loop-id-preserved
loop-id-preserved c =
    gathered-step is_from c.args.elements.now.assigned c.args.live.now c.loop-id.id-index c.id-item.result c.loop-id.pairs.items
    c.push_containers.new.pairs.items c.loop-id-test.true c.id-item.is c.loop-id.invariant c.in_ok-push_containers.ensures
