use Rattle.std.proofs.lemmas.Result.{on_ok_weaker}
use Rattle.pm_oblig.proofs.TargetWords.{has-anywhere, has-inserted, tells-inserted}
use Rattle.pm_oblig.proofs.targets.add_target.Goals as goal

pub returns-in-Some-clause-more : goal.returns-in-Some-clause-more
returns-in-Some-clause-more c =
    has-inserted c.args.targets.now c.insert.new.words c.in-Some.id c.insert.result c.insert.ensures.ok c.insert.ensures.err

pub returns-in-Some-clause-told : goal.returns-in-Some-clause-told
returns-in-Some-clause-told c =
    rw c.in-Some.is
    (on_ok_weaker c.insert.result (tells-inserted c.insert.new.words c.args.targets.now.words c.in-Some.id) c.insert.ensures.ok)

pub returns-in-None-clause-more : goal.returns-in-None-clause-more
returns-in-None-clause-more c = has-anywhere c.args.targets.now
