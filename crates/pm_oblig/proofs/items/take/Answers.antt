use Rattle.pm_oblig.proofs.Knowing.{known-removed}
use Rattle.pm_oblig.proofs.items.take.Goals as goal

pub returns-in_err-own_at-clause-known : goal.returns-in_err-own_at-clause-known
returns-in_err-own_at-clause-known c known are = rw c.own_at.ensures.items are

pub returns-clause-known : goal.returns-clause-known
returns-clause-known c known are =
    rw (c.remove.ensures.items, c.own_at.ensures.items) (known-removed c.args.items.now.items c.args.i known are)
