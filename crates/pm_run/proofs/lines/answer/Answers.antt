-- Where there is no memory for a review's list, the review has left the state.
use Rattle.std.proofs.Common.{length}
use Rattle.pm_model.specs.History.{state_of}
use Rattle.pm_run.proofs.Listed.{unprinted_leaves}
use Rattle.pm_run.proofs.lines.answer.Goals as goal

pub returns-clause-err : goal.returns-clause-err
returns-clause-err g c =
    let told = c.in-Ok.ensures.ok in
    unprinted_leaves (state_of (g.M.Answerer.machine c.args.machine.now)) (state_of (g.M.Answerer.machine c.ask.new.self)) c.in-Request.request c.in-Ok.told.0
    (length c.args.session.now.output) 16384 c.reply.result
    told.answered.reply told.answered.state c.requires c.reply.ensures.fits
