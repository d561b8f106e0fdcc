use Rattle.std.proofs.Common.{sym, ◌∙◌}
use Rattle.pm_replies.proofs.Numbering.{users_left}
use Rattle.pm_replies.proofs.numbers.users.Goals as goal

pub loop-i-preserved : goal.loop-i-preserved
loop-i-preserved c =
    rw (c.in_ok-push.ensures.ok, c.in_ok-number.ensures)
    (sym (users_left c.loop-i.users c.args.list.now c.loop-i.i c.loop-i-test.true) ∙ c.loop-i.invariant)
