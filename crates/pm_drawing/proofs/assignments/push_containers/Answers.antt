use Rattle.std.proofs.Common.{◌∙◌, ◌++◌, ℕ, sym, ap, arith, map}
use Rattle.std.proofs.lemmas.List.{append-nil}
use Rattle.pm_model.specs.Containment.{containers}
use Rattle.pm_drawing.proofs.Gathering.{pairs-of}
use Rattle.pm_drawing.proofs.Steps.{got-step, take-past}
use Rattle.pm_drawing.proofs.assignments.push_containers.Goals as goal

pub loop-i-init : goal.loop-i-init
loop-i-init c = sym (append-nil c.args.pairs.now.items)

pub loop-i-preserved : goal.loop-i-preserved
loop-i-preserved c =
    got-step (containers c.args.elements.now.assigned c.args.id) c.loop-i.i c.parent.result (λ (y : ℕ). let p : ℕ × ℕ = (c.args.id, y) in p)
    c.args.pairs.now.items c.loop-i.pairs.items c.push.new.self.items c.parent.ensures.answer c.loop-i.invariant c.in_ok-push.ensures.items

pub returns : goal.returns
returns c =
    let all = c.count-i-end.ensures in
    let past = c.loop-i-test.false in
    let pairs = c.args.elements.now.assigned in
    c.loop-i.invariant
    ∙ ap (λ l. c.args.pairs.now.items ++ l)
    (ap (λ ys. map (λ (y : ℕ). let p : ℕ × ℕ = (c.args.id, y) in p) ys) (take-past c.loop-i.i (containers pairs c.args.id) (omega (arith, all, past)))
    ∙ pairs-of c.args.id pairs)
