-- The word at the place is the element's.
use Rattle.std.proofs.Common.{◌/◌, ap, length, length-append, arith}
use Rattle.std.proofs.lemmas.Bool.{eqb-true}
use Rattle.pm_oblig.specs.Awaited.{is_word_of}
use Rattle.pm_oblig.proofs.Firsts.{first-at, passes-at}
use Rattle.pm_oblig.proofs.TargetWords.{put_into}
use Rattle.pm_oblig.proofs.targets.widen.Goals as goal

pub at-word-requires : goal.at-word-requires
at-word-requires c = (first-at (is_word_of c.args.id) c.args.words.now c.args.i c.requires).1

pub remove-requires : goal.remove-requires
remove-requires c =
    let below = (first-at (is_word_of c.args.id) c.args.words.now c.args.i c.requires).1 in
    omega (arith, below, simp length-append at (ap length c.in_ok-push.ensures.ok))

pub returns-clause-ok : goal.returns-clause-ok
returns-clause-ok c n =
    let word = c.at-word.result.now in
    let its = eqb-true word.number (c.args.id / 64) (passes-at (is_word_of c.args.id) c.args.words.now c.args.i word c.requires c.at-word.ensures) in
    rw (c.remove.ensures.rest, c.in_ok-push.ensures.ok)
    (put_into c.args.id c.word_of-one.result c.word_of-one.ensures.number c.word_of-one.ensures.bits word its c.args.words.now c.args.i c.at-word.ensures n)
