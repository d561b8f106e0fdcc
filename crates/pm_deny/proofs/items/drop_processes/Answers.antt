use Rattle.std.proofs.Common.{not}
use Rattle.pm_pages.proofs.Passing.{length_kept}
use Rattle.pm_deny.specs.Ended.{is_on}
use Rattle.pm_deny.proofs.items.drop_processes.Goals as goal

pub returns-clause-fewer : goal.returns-clause-fewer
returns-clause-fewer c =
    rw c.remove_where.ensures.items (length_kept (λ p. not (is_on c.args.ended.now p)) c.args.items.now.items)
