use Rattle.std.proofs.lemmas.Result.{on_ok_weaker}
use Rattle.pm_assoc.proofs.Removed.{removed-at_once, removed-gap, ordered-removed}
use Rattle.pm_assoc.proofs.Holding.{holds-at, holds-others}
use Rattle.pm_assoc.proofs.grantees.remove.Goals as goal

pub returns-in-Ok-clause-gone : goal.returns-in-Ok-clause-gone
returns-in-Ok-clause-gone c =
    on_ok_weaker c.remove_at.result
    (λ left. rw left (removed-at_once c.args.grantees.now.items c.args.ua c.args.at c.in-Ok.i c.requires.ordered c.in-Ok.ensures.found)) c.remove_at.ensures.items

pub returns-in-Ok-clause-ordered : goal.returns-in-Ok-clause-ordered
returns-in-Ok-clause-ordered c =
    on_ok_weaker c.remove_at.result
    (λ left. rw left (ordered-removed 0 c.args.grantees.now.items c.in-Ok.i c.args.at c.requires.ordered)) c.remove_at.ensures.items

pub returns-in-Err-clause-gone : goal.returns-in-Err-clause-gone
returns-in-Err-clause-gone c = removed-gap c.args.ua c.args.at 0 c.args.grantees.now.items _ c.requires.ordered c.in-Err.ensures.absent

pub returns-in-Ok-clause-fewer : goal.returns-in-Ok-clause-fewer
returns-in-Ok-clause-fewer c =
    on_ok_weaker c.remove_at.result (λ left still. holds-at c.args.ua c.args.grantees.now.items c.in-Ok.i c.in-Ok.ensures.found) c.remove_at.ensures.items

pub returns-in-Ok-clause-others : goal.returns-in-Ok-clause-others
returns-in-Ok-clause-others c =
    on_ok_weaker c.remove_at.result
    (λ left. rw left (holds-others c.args.ua c.args.grantees.now.items c.in-Ok.i c.args.at c.in-Ok.ensures.found)) c.remove_at.ensures.items
