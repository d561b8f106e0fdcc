use Rattle.std.proofs.Common.{◌∙◌, sym, arith}
use Rattle.pm_sound.proofs.Found.{more, more-once, taken}
use Rattle.pm_sound.proofs.standing.Standing.of.Goals as goal

pub returns-then-taken-clause-once : goal.returns-then-taken-clause-once
returns-then-taken-clause-once c =
    taken c.loop-element.all c.args.elements.now c.loop-element.element-index c.element-item.result (omega arith) c.element-item.is c.loop-element.invariant.0
    (sym c.in_ok-taken.ensures.taken ∙ c.if-taken.true)

pub loop-element-preserved : goal.loop-element-preserved
loop-element-preserved c =
    let i = c.loop-element.element-index in
    let x = c.element-item.result in (
      more c.loop-element.all c.args.elements.now i x (omega arith) c.element-item.is c.loop-element.invariant.0 c.put.new.self
          (c.in_ok-taken.ensures.new c.if-taken.false),
      more-once c.loop-element.all c.args.elements.now i x (omega arith) c.element-item.is c.loop-element.invariant.0
          (sym c.in_ok-taken.ensures.taken ∙ c.if-taken.false) c.loop-element.invariant.1,
    )
