use Rattle.std.proofs.Common.{rules, ◌≡◌, ◌==◌, ◌∙◌, sym, ap, true, false, arith}
use Rattle.pm_affect.proofs.Puts.{at-place, at-other, at-end}
use Rattle.pm_affect.proofs.pairs.rights_at.Goals as goal
use Rattle.pm_affect.proofs.pairs.rights_at.Goals.{else-i-len-via-then-i-len+else-eq, else-i-len-via-else-i-len}

pub returns-then-eq : goal.returns-then-eq
returns-then-eq c =
    let here : (c.at.result.now.element == c.args.element) ≡ true = search rules in
    let same : c.at-then-eq.result.now ≡ c.at.result.now = cc in
    ap (λ (p : _). p.rights) same ∙ at-place 0 c.args.element c.args.i c.args.pairs.now c.at.result.now c.requires.order c.at.ensures here

pub returns : goal.returns
returns c = elim c.else-i-len.branch [
  | else-i-len-via-then-i-len+else-eq w ↦
      let other : (w.at.result.now.element == c.args.element) ≡ false = search rules in
      sym (at-other 0 c.args.element c.args.i c.args.pairs.now w.at.result.now c.requires.order c.requires.place w.at.ensures other)
  | else-i-len-via-else-i-len w ↦
      sym (at-end 0 c.args.element c.args.pairs.now c.requires.order (omega (arith, c.requires.place)))
]
