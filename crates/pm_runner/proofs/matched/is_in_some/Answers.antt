use Rattle.std.proofs.Common.{◌≡◌, bit_and, get_or, refl, ◌∙◌, arith}
use Rattle.std.proofs.lemmas.List.{take_all}
use Rattle.pm_oblig.specs.declared.targets.TargetWord.{TargetWord}
use Rattle.pm_runner.proofs.AnyMatch.{outside-more}
use Rattle.pm_runner.proofs.matched.is_in_some.Goals as goal

pub loop-word-init : goal.loop-word-init
loop-word-init g c = record { same = refl; outside = λ n had. cc }

pub loop-word-preserved : goal.loop-word-preserved
loop-word-preserved g c =
    let default : TargetWord = record { number = 0; bits = 0 } in
    let word = get_or c.args.words.now c.loop-word.word-index default in
    let apart : bit_and word.bits c.above-above.result ≡ 0 = omega arith in
    record {
      same = c.above-above.ensures.same ∙ c.loop-word.invariant.same;
      outside = outside-more ((g.R.Reach.relation c.args.reach.now).below c.args.target) word c.above-above.result apart
          (rw c.loop-word.invariant.same at c.above-above.ensures.word) c.args.words.now c.loop-word.word-index default c.loop-word-test.true refl
          c.loop-word.invariant.outside;
    }

pub returns-clause-outside : goal.returns-clause-outside
returns-clause-outside g c isnt n had =
    c.loop-word.invariant.outside n (rw (take_all c.loop-word.word-index c.args.words.now c.loop-word-test.false) had)
