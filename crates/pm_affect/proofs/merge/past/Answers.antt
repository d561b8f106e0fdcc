use Rattle.std.proofs.Common.{rules, ◌≡◌, ◌==◌, true, false, arith}
use Rattle.pm_affect.proofs.Merging.{past-here, past-other, past-end}
use Rattle.pm_affect.proofs.merge.past.Goals as goal
use Rattle.pm_affect.proofs.merge.past.Goals.{else-i-len-via-then-i-len+else-eq, else-i-len-via-else-i-len}

pub returns-then-eq-clause-rest : goal.returns-then-eq-clause-rest
returns-then-eq-clause-rest c =
    let here : (c.at.result.now.element == c.args.element) ≡ true = search rules in
    past-here c.args.pairs.now c.args.i c.args.element c.at.result.now c.at.ensures here

pub returns-clause-rest : goal.returns-clause-rest
returns-clause-rest c = elim c.else-i-len.branch [
  | else-i-len-via-then-i-len+else-eq w ↦
      let other : (w.at.result.now.element == c.args.element) ≡ false = search rules in
      past-other c.args.pairs.now c.args.i c.args.element w.at.result.now w.at.ensures other
  | else-i-len-via-else-i-len w ↦ past-end c.args.pairs.now c.args.i c.args.element (omega arith)
]
