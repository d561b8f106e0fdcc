-- An action behind those that have made the graph.
use Rattle.std.proofs.Common.{◌∙◌, ap, length, arith}
use Rattle.std.proofs.Math.Bool.{or-false}
use Rattle.std.proofs.lemmas.Result.{err_from_is_err_and}
use Rattle.pm_runner.proofs.Counts.{act-counted}
use Rattle.pm_runner.proofs.Steps.{act-turn, act-done, act-stops, part-left, stop-of}
use Rattle.pm_runner.proofs.running.run_obligation.Goals as goal

pub act_at-requires : goal.act_at-requires
act_at-requires g c =
    rw c.loop-i.invariant.same
    (act-turn (g.A.Acts.occasion c.args.acts.now) c.args.obligation.now c.args.index c.loop-i.i (g.A.Acts.graph c.args.acts.now) (g.A.Acts.graph c.loop-i.acts)
    (omega (arith, ap length c.actions-actions.ensures.actions)) c.requires.due c.loop-i.invariant.made)

pub returns-in_err-act_at-clause-stopped : goal.returns-in_err-act_at-clause-stopped
returns-in_err-act_at-clause-stopped g c =
    let p = err_from_is_err_and c.from_residual.result c.from_residual.ensures.1 in
    rw (p.1, p.2) (stop-of _ _ c.in_err-act_at.field-0.0
    (λ stopped. act-stops (g.A.Acts.occasion c.args.acts.now) c.args.obligation.now c.args.index c.loop-i.i (g.A.Acts.graph c.args.acts.now) (g.A.Acts.graph c.loop-i.acts)
    stopped (omega (arith, ap length c.actions-actions.ensures.actions)) c.requires.due.stands c.loop-i.invariant.made)
    (rw c.loop-i.invariant.same at c.in_err-act_at.ensures.stopped))

pub returns-in_err-act_at-clause-short : goal.returns-in_err-act_at-clause-short
returns-in_err-act_at-clause-short g c =
    let p = err_from_is_err_and c.from_residual.result c.from_residual.ensures.1 in
    rw (p.1, p.2, ← c.loop-i.invariant.short) c.in_err-act_at.ensures.short

pub returns-in_err-act_at-clause-err : goal.returns-in_err-act_at-clause-err
returns-in_err-act_at-clause-err g c =
    let p = err_from_is_err_and c.from_residual.result c.from_residual.ensures.1 in
    rw p.1
    (part-left (g.A.Acts.occasion c.args.acts.now) c.args.obligation.now c.args.index c.loop-i.i (g.A.Acts.graph c.args.acts.now) (g.A.Acts.graph c.loop-i.acts)
    (g.A.Acts.graph c.act_at.new.acts) (omega (arith, ap length c.actions-actions.ensures.actions)) c.requires.due.stands c.loop-i.invariant.made
    (rw c.loop-i.invariant.same at c.in_err-act_at.ensures.err))

pub loop-i-preserved : goal.loop-i-preserved
loop-i-preserved g c = record {
  same = c.in_ok-act_at.ensures.same ∙ c.loop-i.invariant.same;
  history = c.in_ok-act_at.ensures.history ∙ c.loop-i.invariant.history;
  short = c.in_ok-act_at.ensures.short ∙ or-false _ ∙ c.loop-i.invariant.short;
  made = act-done (g.A.Acts.occasion c.args.acts.now) c.args.obligation.now c.args.index c.loop-i.i (g.A.Acts.graph c.args.acts.now) (g.A.Acts.graph c.loop-i.acts)
      (g.A.Acts.graph c.act_at.new.acts) (omega (arith, ap length c.actions-actions.ensures.actions)) c.requires.due.stands c.loop-i.invariant.made (rw c.loop-i.invariant.same at c.in_ok-act_at.ensures.ok);
  done = λ w. act-counted w (g.A.Acts.occasion c.args.acts.now) c.args.obligation.now c.args.index c.loop-i.i (g.A.Acts.graph c.args.acts.now) (g.A.Acts.graph c.loop-i.acts)
      (g.A.Acts.done c.args.acts.now w) (g.A.Acts.done c.loop-i.acts w) (g.A.Acts.done c.act_at.new.acts w)
      (omega (arith, ap length c.actions-actions.ensures.actions)) c.requires.due.stands c.loop-i.invariant.made (c.loop-i.invariant.done w)
      (rw c.loop-i.invariant.same at (c.in_ok-act_at.ensures.done w));
}
