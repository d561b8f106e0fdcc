use Rattle.std.proofs.Common.{sym}
use Rattle.pm_laws.proofs.Items.{each-at}
use Rattle.pm_model.specs.Formed.{IsLive}
use Rattle.pm_drawing.specs.Gathered.{doc_numbered, is_own}
use Rattle.pm_drawing.proofs.Steps.{kept-step}
use Rattle.pm_drawing.proofs.elements.own_elements.Goals as goal

pub push_element-requires : goal.push_element-requires
push_element-requires c =
    each-at (IsLive c.args.elements.now.elements) c.args.live.now c.id-item.result c.requires (c.loop-id.id-index, c.loop-id-test.true, sym c.id-item.is)

pub loop-id-preserved : goal.loop-id-preserved
loop-id-preserved c =
    kept-step c.args.live.now c.loop-id.id-index c.id-item.result (doc_numbered c.args.elements.now.elements) is_own c.loop-id.list.items
    c.push_element.new.list.items c.loop-id-test.true c.id-item.is c.loop-id.invariant c.in_ok-push_element.ensures
