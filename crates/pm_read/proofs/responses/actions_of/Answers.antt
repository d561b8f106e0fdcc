use Rattle.std.proofs.Common.{arith, sym, ◌∙◌}
use Rattle.pm_model.specs.ResponseForms.{action_form}
use Rattle.pm_read.proofs.Items.{behind_next}
use Rattle.pm_read.proofs.responses.actions_of.Goals as goal

pub loop-value-preserved : goal.loop-value-preserved
loop-value-preserved c =
    rw c.in_ok-push-in-Some.ensures.ok
    (behind_next action_form c.loop-value.actions c.args.items.now c.loop-value.value-index c.value-item.result c.in-Some.action _
    (omega arith) c.value-item.is (sym c.in_ok-action.ensures ∙ c.in-Some.is) c.loop-value.invariant)
