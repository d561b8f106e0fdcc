use Rattle.std.proofs.Common.{◌∙◌}
use Rattle.pm_model.specs.History.{state_of}
use Rattle.pm_step.proofs.Stepping.{told-is}
use Rattle.pm_step.proofs.entries.settle.Goals as goal

pub returns-in_ok-stopped-in-Err : goal.returns-in_ok-stopped-in-Err
returns-in_ok-stopped-in-Err c =
    let stop = rw (c.graph.ensures, c.version-version.ensures.version) at c.in-Err.ensures.stopped in
    told-is (state_of c.args.state.now) c.args.entry.request c.in_ok-stopped-in-Err.field-0
    (c.requires.asked ∙ c.in_ok-stopped-in-Err.ensures c.args.state.now c.args.reply _ stop)

pub finish-requires-clause-done : goal.finish-requires-clause-done
finish-requires-clause-done c w = (rw (c.graph.ensures, c.version-version.ensures.version) at (c.in-Ok.ensures.done w)) ∙ c.requires.done w
