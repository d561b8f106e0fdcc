use Rattle.std.proofs.Common.{◌∙◌, sym, ap, arith, filter}
use Rattle.pm_model.specs.RightSet.{bit_named}
use Rattle.pm_policy.specs.PolicyOf.{is_bit_in}
use Rattle.pm_drawing.proofs.Bits.{bit-chosen}
use Rattle.pm_drawing.proofs.Steps.{filter-step, take-past}
use Rattle.pm_drawing.proofs.rights.names_of.Goals as goal

pub loop-bit-init : goal.loop-bit-init
loop-bit-init c = c.new-list.ensures

pub loop-bit-preserved : goal.loop-bit-preserved
loop-bit-preserved c =
    let rights = c.args.rights.now in
    filter-step rights c.loop-bit.bit c.name_at.result (λ name. is_bit_in c.args.set (bit_named rights name)) c.has.result c.loop-bit.list c.push_if.new.list
    c.name_at.ensures (bit-chosen rights c.args.set c.loop-bit.bit c.name_at.result c.requires c.name_at.ensures ∙ sym c.has.ensures)
    c.loop-bit.invariant c.in_ok-push_if.ensures

pub returns : goal.returns
returns c =
    let all = c.count-bit-end.ensures in
    let past = c.loop-bit-test.false in
    let rights = c.args.rights.now in
    c.loop-bit.invariant
    ∙ ap (λ l. filter (λ name. is_bit_in c.args.set (bit_named rights name)) l) (take-past c.loop-bit.bit rights (omega (arith, all, past)))
