use Rattle.std.proofs.Common.{arith}
use Rattle.pm_run.proofs.Answering.{answered-unsent}
use Rattle.pm_run.proofs.lines.answer_lines.Goals.{in-Err-WriteFault, in_default, in_default-2}
use Rattle.pm_run.proofs.lines.answer_lines.Goals as goal

pub returns-in_err-send-clause-fault : goal.returns-in_err-send-clause-fault
returns-in_err-send-clause-fault g c = λ _.
    answered-unsent _ _ _ _ _ _ _ _ _ c.answer_waiting-answered.ensures.ok c.answer_waiting-answered.ensures.memory
    (λ e. elim c.match-matches.branch [
      | in-Err-WriteFault w ↦ grind (arith, w.matches-is, c.if-matches.false)
      | in_default w ↦ grind (arith, e, w.in_default.is)
      | in_default-2 w ↦ grind (arith, e, w.in_default.is)
    ])
    c.in_err-send.ensures.err
