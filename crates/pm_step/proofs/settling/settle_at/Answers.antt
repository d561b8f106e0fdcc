use Rattle.std.proofs.Common.{sym, ◌∙◌, arith}
use Rattle.pm_step.proofs.Settled.{kept-before, kept-here, new-stays, same-stays}
use Rattle.pm_step.proofs.settling.settle_at.Goals as goal

pub returns-then-not-was_kept-clause-ok : goal.returns-then-not-was_kept-clause-ok
returns-then-not-was_kept-clause-ok c = λ k here.
    new-stays c.args.before.now.graph c.args.draft.now.graph c.args.version c.args.place c.in-Some.number c.in-Some.of
    (rw (c.kept.ensures, c.graph.ensures) at c.in-Some.ensures) k here
    (rw (c.graph-2.ensures) at (sym c.was_kept.ensures ∙ c.if-not-was_kept.true))

pub changes_in-requires-clause-before : goal.changes_in-requires-clause-before
changes_in-requires-clause-before c =
    kept-before c.args.before.now.graph c.in-Some.number c.in-Some.of
    (rw (c.graph-2.ensures) at (sym c.was_kept.ensures ∙ c.if-not-was_kept.false))

pub changes_in-requires-clause-after : goal.changes_in-requires-clause-after
changes_in-requires-clause-after c =
    kept-here c.args.draft.now.graph c.args.place c.in-Some.number c.in-Some.of c.requires.place
    (rw (c.kept.ensures, c.graph.ensures) at c.in-Some.ensures)

pub returns-else-len-gt0-clause-ok : goal.returns-else-len-gt0-clause-ok
returns-else-len-gt0-clause-ok c = λ k here.
    same-stays c.args.before.now.graph c.args.draft.now.graph c.args.version c.args.place c.in-Some.number c.in-Some.of
    (rw (c.kept.ensures, c.graph.ensures) at c.in-Some.ensures) k here c.in_ok-changes.changes
    (rw (c.graph-2.ensures) at (sym c.was_kept.ensures ∙ c.if-not-was_kept.false)) c.in_ok-changes.ensures
    (omega (arith, c.if-len-gt0.false, c.len.ensures))
