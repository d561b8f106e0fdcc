-- The work of a command is that of its change.
use Rattle.std.proofs.Common.{◌≡◌, false, length, sym}
use Rattle.pm_model.specs.Answer.{is_ahead}
use Rattle.pm_model.specs.History.{state_of}
use Rattle.pm_step.proofs.Counted.{work-admin}
use Rattle.pm_step.proofs.proposals.propose.Goals as goal

pub returns-in-Admin-clause-work : goal.returns-in-Admin-clause-work
returns-in-Admin-clause-work c d w =
    let ahead : is_ahead d.args.request.now.after (length d.args.state.now.history) ≡ false = rw (d.version.ensures.version) at (sym d.if-is_ahead.ensures) in
    rw (work-admin w (state_of d.args.state.now) d.args.request.now d.in-Admin.process d.in-Admin.command ahead d.in-Admin.is) (d.administer.ensures.work w)
