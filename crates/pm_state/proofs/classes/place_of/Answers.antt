use Rattle.std.proofs.Common.{arith}
use Rattle.pm_state.proofs.ClassPlaces.{past-more, past-here, past-end}
use Rattle.pm_state.proofs.classes.place_of.Goals as goal

pub returns-then-number-clause-place : goal.returns-then-number-clause-place
returns-then-number-clause-place c =
    past-here c.args.id c.at.result.now c.args.classes.now c.loop-i.i c.loop-i.invariant c.at.ensures
    (omega (arith, c.if-number.true, c.number.ensures, c.number-in-loop-i.ensures))

pub loop-i-preserved : goal.loop-i-preserved
loop-i-preserved c =
    past-more c.args.id c.at.result.now c.args.classes.now c.loop-i.i c.loop-i.invariant c.at.ensures
    (omega (arith, c.if-number.false, c.number.ensures, c.number-in-loop-i.ensures))

pub returns-clause-place : goal.returns-clause-place
returns-clause-place c =
    rw c.len.ensures (past-end c.args.id c.args.classes.now c.loop-i.i c.loop-i.invariant
    (omega (arith, c.loop-i-test.false, c.len-i-end.ensures)))
