-- The copy's history is longer exactly where the request is accepted.
use Rattle.std.proofs.Common.{sym, ◌∙◌}
use Rattle.pm_machine.specs.declared.versions.Stepped.TheVariants.{Accepted}
use Rattle.pm_step.proofs.Counted.{step_counted}
use Rattle.pm_step.proofs.Stepping.{answered-alone, answered-on}
use Rattle.pm_step.proofs.steps.step.Goals as goal

pub returns-then-version-clause-ok : goal.returns-then-version-clause-ok
returns-then-version-clause-ok g c =
    answered-alone c.args.state.now c.advance.new.state _ c.in_ok-reply.reply (rw c.in_ok-next.ensures at c.in_ok-reply.ensures.ok)
    (sym c.version.ensures.version ∙ c.if-version.true ∙ c.version-2.ensures.version)

pub returns-clause-ok : goal.returns-clause-ok
returns-clause-ok g c =
    answered-on c.args.state.now c.advance.new.state _ c.in_ok-reply.reply (rw c.in_ok-next.ensures at c.in_ok-reply.ensures.ok)
    (λ same. c.if-version.false (c.version.ensures.version ∙ same ∙ sym c.version-2.ensures.version))

pub returns-clause-work : goal.returns-clause-work
returns-clause-work g c =
    step_counted c.args.state.now (record { seat = c.args.seat; nth = c.args.nth; request = c.args.request.now })
    (Accepted c.advance.new.state c.in_ok-reply.reply) c.replayed.ensures
    (answered-on c.args.state.now c.advance.new.state _ c.in_ok-reply.reply (rw c.in_ok-next.ensures at c.in_ok-reply.ensures.ok)
    (λ same. c.if-version.false (c.version.ensures.version ∙ same ∙ sym c.version-2.ensures.version)))
