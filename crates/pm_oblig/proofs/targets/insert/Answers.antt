use Rattle.std.proofs.lemmas.Result.{on_ok_weaker}
use Rattle.pm_oblig.proofs.TargetWords.{put_behind}
use Rattle.pm_oblig.proofs.targets.insert.Goals as goal

pub returns-in-None-clause-ok : goal.returns-in-None-clause-ok
returns-in-None-clause-ok c =
    on_ok_weaker c.push.result
    (λ made n. rw made (put_behind c.args.id c.word_of.result c.word_of.ensures.number c.word_of.ensures.bits c.args.words.now n))
    c.push.ensures.ok
