use Rattle.std.proofs.lemmas.Result.{on_ok_weaker}
use Rattle.pm_procs.proofs.Places.{own-found, own-absent}
use Rattle.pm_procs.proofs.numbered.own.Goals as goal

pub returns-in-Some-clause-ok : goal.returns-in-Some-clause-ok
returns-in-Some-clause-ok g c =
    on_ok_weaker c.own_at.result
    (λ own. own-found g.T.Numbered.number c.args.number c.own_at.new.self c.args.items.now.items c.in-Some.i c.own_at.ensures.items c.requires c.in-Some.ensures own)
    c.own_at.ensures.ok

pub returns-in-None-clause-ok : goal.returns-in-None-clause-ok
returns-in-None-clause-ok g c = own-absent g.T.Numbered.number c.args.number c.args.items.now c.in-None.ensures
