use Rattle.std.proofs.Common.{◌+◌, length, subst}
use Rattle.pm_model.specs.Effect.{IsCause}
use Rattle.pm_model.specs.Answer.{refusal_in}
use Rattle.pm_model.specs.History.{state_of}
use Rattle.pm_step.proofs.Stepping.{made-answered, refused-answered}
use Rattle.pm_step.proofs.steps.enter.Goals as goal

pub returns-in-Ok-clause-ok : goal.returns-in-Ok-clause-ok
returns-in-Ok-clause-ok c =
    made-answered c.args.state.now c.enter.new.self c.args.entry c.args.change.now c.done.result c.requires.asked
    (c.requires.leaves.settled c.enter.new.self.graph c.in-Ok.ensures.ok (length c.args.state.now.history + 1)) c.in-Ok.ensures.ok c.in-Ok.ensures.room c.in-Ok.ensures.history (rw (c.in-Ok.ensures.made) at c.done.ensures)

pub returns-in-Err-Refused-clause-ok : goal.returns-in-Err-Refused-clause-ok
returns-in-Err-Refused-clause-ok c =
    let M = c.args.state.now in
    let change = c.args.change.now in
    refused-answered M c.enter.new.self c.args.entry change c.in-Err-Refused.why c.requires.asked
    (subst (IsCause (refusal_in (state_of M) change)) c.in-Err-Refused.field-0-is c.in-Err-Refused.ensures.refused) c.in-Err-Refused.ensures.err
