use Rattle.std.proofs.Common.{◌∙◌, sym, ap, arith, drop, take}
use Rattle.std.proofs.lemmas.List.{length-take}
use Rattle.pm_drawing.proofs.Steps.{drop-past, drop-step, take-past}
use Rattle.pm_drawing.proofs.rights.defined_rights.Goals as goal

pub loop-bit-init : goal.loop-bit-init
loop-bit-init c =
    let l = length-take 17 c.args.rights.now in
    (omega arith, c.new-list.ensures ∙ sym (drop-past 17 (take 17 c.args.rights.now) (omega (arith, l))))

pub loop-bit-preserved : goal.loop-bit-preserved
loop-bit-preserved c =
    let later = c.loop-bit.invariant.0 in (
      omega (arith, later),
      drop-step c.args.rights.now c.loop-bit.bit c.name_at.result 17 c.loop-bit.list c.push.new.self later c.name_at.ensures c.loop-bit.invariant.1
          c.in_ok-push.ensures.ok,
    )

pub returns : goal.returns
returns c =
    let all = c.count-bit-end.ensures in
    let past = c.loop-bit-test.false in
    c.loop-bit.invariant.1 ∙ ap (λ l. drop 17 l) (take-past c.loop-bit.bit c.args.rights.now (omega (arith, all, past)))
