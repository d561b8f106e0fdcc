use Rattle.std.proofs.lemmas.Result.{on_ok_weaker}
use Rattle.pm_oblig.proofs.Knowing.{knows-written, told-written}
use Rattle.pm_oblig.proofs.known.add_at.Goals as goal

pub returns-in_err-own_at-clause-more : goal.returns-in_err-own_at-clause-more
returns-in_err-own_at-clause-more c operation target had = rw c.own_at.ensures.items had

pub returns-clause-more : goal.returns-clause-more
returns-clause-more c =
    knows-written c.edit.result.now c.add_target.new.targets c.add_target.ensures.same c.add_target.ensures.more
    c.args.known.now.items c.own_at.new.self.items c.args.i c.own_at.ensures.items c.edit.ensures.value

pub returns-clause-told : goal.returns-clause-told
returns-clause-told c operation place =
    on_ok_weaker c.add_target.result
    (told-written c.edit.result.now c.add_target.new.targets c.add_target.ensures.same c.add_target.ensures.more
    c.args.known.now.items c.own_at.new.self.items c.args.i c.own_at.ensures.items c.edit.ensures.value operation c.args.target place)
    c.add_target.ensures.told
