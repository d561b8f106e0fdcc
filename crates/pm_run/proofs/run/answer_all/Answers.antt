use Rattle.std.proofs.Common.{arith, ap, refl, Err, ◌∙◌, ℕ, length-take}
use Rattle.pm_model.specs.History.{state_of}
use Rattle.pm_run.proofs.Running.{running-none, running-more}
use Rattle.pm_run.proofs.Ending.{ended-much, ended-since, reached-done}
use Rattle.pm_run.proofs.run.answer_all.Goals as goal

pub loop-total-init : goal.loop-total-init
loop-total-init g c = record {
  running = running-none _ _ _ _ _ (ap state_of c.requires.machine) (rw c.requires.session refl) (rw c.requires.session refl);
  within = omega arith;
  read = refl;
  unended = refl;
  written = refl;
}

pub loop-total-preserved : goal.loop-total-preserved
loop-total-preserved g c =
    let k = c.loop-total.invariant in
    let more = c.in-Ok.ensures.ok in
    record {
      running = running-more _ _ _ _ _ _ _ _ _ _ _ _ _ _ _ k.running more.consumed more.wrote more.drained more.sent (let l = more.long in omega arith);
      within = let w = more.within in let r = c.room.ensures in let t = c.loop-total-test.true in omega (arith, length-take {A = ℕ}, c.room.array_long);
      read = more.read ∙ k.read;
      unended = more.unended ∙ k.unended;
      written = more.written ∙ k.written;
    }

pub returns-in-Err-clause-reached : goal.returns-in-Err-clause-reached
returns-in-Err-clause-reached g c = λ is.
    let k = c.loop-total.invariant in
    reached-done _ _ _ _ _ _ _ _ _ _ _ k.running (let t = c.loop-total-test.true in omega arith) (c.in-Err.ensures.done (ap Err is))

pub returns-in-Err-clause-ended : goal.returns-in-Err-clause-ended
returns-in-Err-clause-ended g c =
    let k = c.loop-total.invariant in
    ended-since _ _ _ _ _ _ _ _ _ _ _ k.read k.unended k.written
    (c.in-Err.ensures.err c.args.limit c.loop-total.total _ _ k.running (let r = c.room.ensures in let t = c.loop-total-test.true in omega (arith, length-take {A = ℕ}, c.room.array_long)))

pub returns-clause-ended : goal.returns-clause-ended
returns-clause-ended g c =
    let k = c.loop-total.invariant in
    ended-much _ _ _ _ _ _ _ _ _ _ _ _ _ _ _ k.running (let a = k.within in let b = c.loop-total-test.false in omega arith) k.read k.unended k.written
