use Rattle.std.proofs.Common.{◌∙◌, ◌++◌, sym, ap, arith, map}
use Rattle.std.proofs.lemmas.List.{append-nil}
use Rattle.pm_drawing.proofs.Gathering.{granted}
use Rattle.pm_drawing.proofs.Steps.{behind-step, take-past}
use Rattle.pm_drawing.proofs.associations.push_grants.Goals as goal

pub loop-grant-init : goal.loop-grant-init
loop-grant-init c = sym (append-nil c.args.list.now.items)

pub loop-grant-preserved : goal.loop-grant-preserved
loop-grant-preserved c =
    behind-step c.as_slice-grant-items.result.now c.loop-grant.grant-index c.grant-item.result (granted c.args.grantee.now.ua) c.args.list.now.items
    c.loop-grant.list.items c.push.new.self.items c.loop-grant-test.true c.grant-item.is c.loop-grant.invariant c.in_ok-push.ensures.items

pub returns : goal.returns
returns c =
    let past = c.loop-grant-test.false in
    c.loop-grant.invariant
    ∙ ap (λ l. c.args.list.now.items ++ map (granted c.args.grantee.now.ua) l)
    (take-past c.loop-grant.grant-index c.as_slice-grant-items.result.now (omega (arith, past)) ∙ c.as_slice-grant-items.ensures)
