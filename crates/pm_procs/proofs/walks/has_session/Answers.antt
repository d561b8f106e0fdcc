use Rattle.std.proofs.Common.{◌∙◌, sym}
use Rattle.pm_model.specs.Sessions.{is_session_of}
use Rattle.pm_procs.proofs.Runs.{any-found, any-further}
use Rattle.pm_procs.proofs.walks.has_session.Goals as goal

pub returns-then-is_user_among : goal.returns-then-is_user_among
returns-then-is_user_among c =
    any-found c.args.sessions.now.items c.run-run.result.now c.loop-begin.begin c.run-run.ensures.items (is_session_of c.args.user)
    (sym c.is_user_among.ensures ∙ c.if-is_user_among.true)

pub loop-begin-preserved : goal.loop-begin-preserved
loop-begin-preserved c =
    any-further c.args.sessions.now.items c.run-run.result.now c.loop-begin.begin c.run-run.ensures.items (is_session_of c.args.user)
    (sym c.is_user_among.ensures ∙ c.if-is_user_among.false) c.loop-begin.invariant
