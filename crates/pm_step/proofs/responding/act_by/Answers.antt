-- Where the guards hold, the work of an action is that of its command.
use Rattle.std.proofs.Common.{◌≡◌, true, Ok, refl, sym, ap, ◌∙◌}
use Rattle.pm_model.specs.Responses.{all_hold, fresh_name}
use Rattle.pm_affect.specs.Counting.{work_acted, work_commanded}
use Rattle.pm_state.specs.Drafted.{done_in}
use Rattle.pm_step.proofs.Counted.{if-done}
use Rattle.pm_step.proofs.responding.act_by.Goals as goal

pub returns-in-Ok-clause-done : goal.returns-in-Ok-clause-done
returns-in-Ok-clause-done c w =
    let draft = c.args.draft.now in
    let holds : all_hold draft.graph c.args.names.now (fresh_name c.args.place c.args.version) c.args.action.now.guards ≡ Ok true =
    (rw (c.graph.ensures, c.fresh_name-fresh.ensures, c.as_slice.ensures) at (sym c.all_hold.ensures)) ∙ c.in-Ok-true.is ∙ ap Ok c.in-Ok-true.field-0-test in
    let same : work_commanded w draft.graph c.args.author c.in-Ok.command
    ≡ work_acted w c.args.names.now c.args.version draft.graph c.args.author c.args.place c.args.action.now =
    rw (holds, c.in-Ok.ensures.value) refl in
    if-done c.give.result (done_in c.give.new.draft w) (done_in draft w) _ _ same (c.give.ensures.done w)
