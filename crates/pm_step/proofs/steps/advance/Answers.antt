use Rattle.pm_step.proofs.Counted.{if-counted}
use Rattle.pm_step.proofs.steps.advance.Goals as goal

pub returns-clause-work : goal.returns-clause-work
returns-clause-work g c =
    if-counted c.args.state.now c.answered.new.state (record { seat = c.args.seat; nth = c.args.nth; request = c.args.request.now }) c.answered.result
    c.replayed.ensures c.answered.ensures.ok
