-- A response behind those that have made the graph.
use Rattle.std.proofs.Common.{◌∙◌}
use Rattle.std.proofs.Math.Bool.{or-false}
use Rattle.std.proofs.lemmas.Result.{err_from_is_err_and}
use Rattle.pm_runner.proofs.Counts.{response-counted}
use Rattle.pm_runner.proofs.Places.{stands_at}
use Rattle.pm_runner.proofs.Steps.{response-done, response-stops, run-left, stop-of}
use Rattle.pm_runner.proofs.running.run_responses.Goals as goal

pub run_obligation-requires-clause-due : goal.run_obligation-requires-clause-due
run_obligation-requires-clause-due g c =
    rw c.loop-i.invariant.same (record {
      stands = stands_at _ _ _ c.loop-i.i c.at-place.result.now c.at.result.now c.requires.places c.at-place.ensures c.at.ensures;
      start = g.A.Acts.graph c.args.acts.now;
      made = c.loop-i.invariant.made;
    })

pub returns-in_err-run_obligation-clause-stopped : goal.returns-in_err-run_obligation-clause-stopped
returns-in_err-run_obligation-clause-stopped g c =
    let p = err_from_is_err_and c.from_residual.result c.from_residual.ensures.1 in
    rw (p.1, p.2) (stop-of _ _ c.in_err-run_obligation.field-0.0
    (λ stopped. response-stops (g.A.Acts.occasion c.args.acts.now) (g.A.Acts.occasion c.loop-i.acts) c.loop-i.i (g.A.Acts.graph c.args.acts.now)
    (g.A.Acts.graph c.loop-i.acts) c.at.result.now stopped c.loop-i.invariant.same
    (stands_at _ _ _ c.loop-i.i c.at-place.result.now c.at.result.now c.requires.places c.at-place.ensures c.at.ensures) c.loop-i.invariant.made)
    c.in_err-run_obligation.ensures.stopped)

pub returns-in_err-run_obligation-clause-short : goal.returns-in_err-run_obligation-clause-short
returns-in_err-run_obligation-clause-short g c =
    let p = err_from_is_err_and c.from_residual.result c.from_residual.ensures.1 in
    rw (p.1, p.2, ← c.loop-i.invariant.short) c.in_err-run_obligation.ensures.short

pub returns-in_err-run_obligation-clause-err : goal.returns-in_err-run_obligation-clause-err
returns-in_err-run_obligation-clause-err g c =
    let p = err_from_is_err_and c.from_residual.result c.from_residual.ensures.1 in
    rw p.1
    (run-left (g.A.Acts.occasion c.args.acts.now) (g.A.Acts.occasion c.loop-i.acts) c.loop-i.i (g.A.Acts.graph c.args.acts.now)
    (g.A.Acts.graph c.loop-i.acts) (g.A.Acts.graph c.run_obligation.new.acts) c.at.result.now c.loop-i.invariant.same
    (stands_at _ _ _ c.loop-i.i c.at-place.result.now c.at.result.now c.requires.places c.at-place.ensures c.at.ensures)
    c.loop-i.invariant.made c.in_err-run_obligation.ensures.err)

pub loop-i-preserved : goal.loop-i-preserved
loop-i-preserved g c = record {
  same = c.in_ok-run_obligation.ensures.same ∙ c.loop-i.invariant.same;
  history = c.in_ok-run_obligation.ensures.history ∙ c.loop-i.invariant.history;
  short = c.in_ok-run_obligation.ensures.short ∙ or-false _ ∙ c.loop-i.invariant.short;
  made = response-done (g.A.Acts.occasion c.args.acts.now) (g.A.Acts.occasion c.loop-i.acts) c.loop-i.i (g.A.Acts.graph c.args.acts.now)
      (g.A.Acts.graph c.loop-i.acts) (g.A.Acts.graph c.run_obligation.new.acts) c.at.result.now c.loop-i.invariant.same
      (stands_at _ _ _ c.loop-i.i c.at-place.result.now c.at.result.now c.requires.places c.at-place.ensures c.at.ensures)
      c.loop-i.invariant.made c.in_ok-run_obligation.ensures.ok;
  done = λ w. response-counted w (g.A.Acts.occasion c.args.acts.now) (g.A.Acts.occasion c.loop-i.acts) c.loop-i.i (g.A.Acts.graph c.args.acts.now)
      (g.A.Acts.graph c.loop-i.acts) c.at.result.now (g.A.Acts.done c.args.acts.now w) (g.A.Acts.done c.loop-i.acts w)
      (g.A.Acts.done c.run_obligation.new.acts w) c.loop-i.invariant.same
      (stands_at _ _ _ c.loop-i.i c.at-place.result.now c.at.result.now c.requires.places c.at-place.ensures c.at.ensures)
      c.loop-i.invariant.made (c.loop-i.invariant.done w) (c.in_ok-run_obligation.ensures.done w);
}
