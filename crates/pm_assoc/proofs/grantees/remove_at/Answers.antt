use Rattle.std.proofs.Common.{◌∙◌, ap}
use Rattle.pm_assoc.specs.Grantees.{without_grant, without_empty, edited}
use Rattle.pm_assoc.proofs.Edits.{set-edited}
use Rattle.pm_assoc.proofs.Removed.{length-removed, associations-without_empty}
use Rattle.pm_assoc.proofs.grantees.remove_at.Goals as goal

pub returns-clause-items : goal.returns-clause-items
returns-clause-items c =
    c.drop_empty.ensures.items
    ∙ ap (without_empty c.args.i)
    (set-edited (without_grant c.args.at) c.args.grantees.now.items c.own_at.new.self.items c.args.i c.edit.result.now c.drop_grants-gone.new.grantee
    c.own_at.ensures.items c.edit.ensures.value c.drop_grants-gone.ensures.rest)

pub returns-clause-count : goal.returns-clause-count
returns-clause-count c =
    let left = returns-clause-items c in
    let read = rw c.own_at.ensures.items at c.edit.ensures.value in
    rw (left, associations-without_empty c.args.i (edited (without_grant c.args.at) c.args.i c.args.grantees.now.items))
    (length-removed c.args.grantees.now.items c.args.i c.args.at c.drop_grants-gone.result c.edit.result.now read c.drop_grants-gone.ensures.count)
