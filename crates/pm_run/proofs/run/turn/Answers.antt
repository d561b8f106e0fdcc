use Rattle.std.proofs.lemmas.Result.{on_ok_weaker}
use Rattle.pm_run.proofs.Running.{coming-pushed, Wrote-as, WrotePart-as}
use Rattle.pm_run.proofs.run.turn.Goals as goal

pub returns-clause-ok : goal.returns-clause-ok
returns-clause-ok g c =
    on_ok_weaker _ (Wrote-as _ _ _ _ _ _ _ (λ more. coming-pushed c.args.session.now.waiting c.push.new.self.waiting c.args.piece.now more c.push.result c.push.ensures.waiting (c.push.ensures.all c.requires.drained c.requires.short)))
    c.answer_lines.ensures.ok

pub returns-clause-fault : goal.returns-clause-fault
returns-clause-fault g c = λ e.
    WrotePart-as _ _ _ _ _ (λ more. coming-pushed c.args.session.now.waiting c.push.new.self.waiting c.args.piece.now more c.push.result c.push.ensures.waiting (c.push.ensures.all c.requires.drained c.requires.short))
    (c.answer_lines.ensures.fault e)

pub returns-clause-memory : goal.returns-clause-memory
returns-clause-memory g c = λ e.
    let whole = c.answer_lines.ensures.memory e in
    (whole.0, Wrote-as _ _ _ _ _ _ _ (λ more. coming-pushed c.args.session.now.waiting c.push.new.self.waiting c.args.piece.now more c.push.result c.push.ensures.waiting (c.push.ensures.all c.requires.drained c.requires.short)) whole.1)
