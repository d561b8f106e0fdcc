use Rattle.std.proofs.lemmas.Result.{on_ok_weaker, on_err_weaker}
use Rattle.pm_assoc.specs.Grantees.{with_grant}
use Rattle.pm_assoc.proofs.Edits.{set-edited, set-same}
use Rattle.pm_assoc.proofs.grantees.add_grant.Goals as goal

pub returns-clause-ok : goal.returns-clause-ok
returns-clause-ok c =
    on_ok_weaker c.push_grant.result
    (set-edited (with_grant c.args.grant) c.args.grantees.now.items c.own_at.new.self.items c.args.i c.edit.result.now c.push_grant.new.grantee c.own_at.ensures.items c.edit.ensures.value)
    c.push_grant.ensures.ok

pub returns-clause-err : goal.returns-clause-err
returns-clause-err c =
    on_err_weaker c.push_grant.result
    (set-same c.args.grantees.now.items c.own_at.new.self.items c.args.i c.edit.result.now c.push_grant.new.grantee c.own_at.ensures.items c.edit.ensures.value)
    c.push_grant.ensures.err
