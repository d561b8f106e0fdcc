use Rattle.std.proofs.Common.{rules, arith, ◌≡◌, ◌==◌, true, false, ◌∙◌}
use Rattle.pm_affect.proofs.Puts.{out-removed, out-other, out-past}
use Rattle.pm_affect.proofs.pairs.take_out.Goals as goal
use Rattle.pm_affect.proofs.pairs.take_out.Goals.{else-i-len-via-then-i-len+else-eq, else-i-len-via-else-i-len}

pub returns-then-eq : goal.returns-then-eq
returns-then-eq c =
    let here : (c.at.result.now.element == c.args.element) ≡ true = search rules in
    c.remove-old.ensures.rest ∙ out-removed c.args.element c.args.i c.args.pairs.now c.at.result.now c.at.ensures here

pub returns-else-i-len : goal.returns-else-i-len
returns-else-i-len c = elim c.else-i-len.branch [
  | else-i-len-via-then-i-len+else-eq w ↦
      let other : (w.at.result.now.element == c.args.element) ≡ false = search rules in
      out-other c.args.element c.args.i c.args.pairs.now w.at.result.now w.at.ensures other
  | else-i-len-via-else-i-len w ↦ out-past c.args.element c.args.i c.args.pairs.now (omega arith)
]
