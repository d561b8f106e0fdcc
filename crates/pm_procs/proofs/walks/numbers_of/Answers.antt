use Rattle.std.proofs.Common.{◌≡◌, ◌∙◌, ◌++◌, sym, ap, map, filter}
use Rattle.pm_model.specs.Sessions.{is_of_session}
use Rattle.pm_model.specs.declared.sessions.Process.{Process}
use Rattle.pm_procs.proofs.Runs.{kept-further}
use Rattle.pm_procs.proofs.walks.numbers_of.Goals as goal

pub loop-begin-preserved : goal.loop-begin-preserved
loop-begin-preserved c =
    c.in_ok-push_numbers.ensures
    ∙ ap (λ ns. ns ++ map (λ (p : Process). p.number) (filter (is_of_session c.args.session) c.run-run.result.now)) c.loop-begin.invariant
    ∙ sym (kept-further c.args.processes.now.items c.run-run.result.now c.loop-begin.begin c.run-run.ensures.items (λ (p : Process). p.number) (is_of_session c.args.session))
