use Rattle.std.proofs.Common.{[], ◌∷◌, arith}
use Rattle.std.proofs.lemmas.Result.{on_ok_weaker}
use Rattle.pm_assoc.proofs.Added.{added-at, added-new, ordered-at, ordered-new}
use Rattle.pm_assoc.proofs.Holding.{holds-added, holds-new}
use Rattle.pm_assoc.proofs.grantees.add.Goals as goal

pub returns-in-Ok-clause-ok : goal.returns-in-Ok-clause-ok
returns-in-Ok-clause-ok c =
    on_ok_weaker c.add_grant.result (λ made. rw made (added-at 0 c.args.grantees.now.items c.args.ua c.in-Ok.i c.args.grant c.requires.ordered c.in-Ok.ensures.found)) c.add_grant.ensures.ok

pub returns-in-Ok-clause-ordered : goal.returns-in-Ok-clause-ordered
returns-in-Ok-clause-ordered c =
    on_ok_weaker c.add_grant.result (λ made. rw made (ordered-at 0 c.args.grantees.now.items c.in-Ok.i c.args.grant c.requires.ordered)) c.add_grant.ensures.ok

pub returns-in-Err-clause-ok : goal.returns-in-Err-clause-ok
returns-in-Err-clause-ok c =
    on_ok_weaker c.add_grantee.result (λ made. rw made (added-new 0 c.args.grantees.now.items c.args.ua c.in-Err.i c.args.grant c.requires.ordered c.in-Err.ensures.absent)) c.add_grantee.ensures.ok

pub returns-in-Err-clause-ordered : goal.returns-in-Err-clause-ordered
returns-in-Err-clause-ordered c =
    on_ok_weaker c.add_grantee.result (λ made. rw made (ordered-new 0 c.args.grantees.now.items c.args.ua c.in-Err.i c.args.grant c.requires.ordered (omega arith) c.in-Err.ensures.absent)) c.add_grantee.ensures.ok

pub returns-in-Ok-clause-holders : goal.returns-in-Ok-clause-holders
returns-in-Ok-clause-holders c =
    on_ok_weaker c.add_grant.result (λ made. rw made (holds-added c.args.ua c.args.grantees.now.items c.in-Ok.i c.args.grant c.in-Ok.ensures.found)) c.add_grant.ensures.ok

pub returns-in-Err-clause-holders : goal.returns-in-Err-clause-holders
returns-in-Err-clause-holders c =
    on_ok_weaker c.add_grantee.result
    (λ made. rw made (holds-new c.args.ua c.args.grantees.now.items c.in-Err.i (c.args.grant ∷ []) 0 c.requires.ordered c.in-Err.ensures.absent)) c.add_grantee.ensures.ok
