-- Below the lowest bit of what is left of the word there is nothing.
use Rattle.std.proofs.Common.{arith}
use Rattle.pm_reach.proofs.WholeWords.{none_before, lowest_there}
use Rattle.pm_reach.proofs.words.next_in_word.Goals as goal

pub returns-then-found-end-clause-none : goal.returns-then-found-end-clause-none
returns-then-found-end-clause-none c =
    λ p l s. none_before c.args.words.now c.word.result c.args.z c.word.ensures c.word.type_inv p l s (omega (arith, c.if-found-end.true, s))

pub returns-then-found-end-clause-there : goal.returns-then-found-end-clause-there
returns-then-found-end-clause-there c = lowest_there c.args.words.now c.word.result c.args.z c.word.ensures c.word.type_inv

pub returns-else-found-end-clause-none : goal.returns-else-found-end-clause-none
returns-else-found-end-clause-none c =
    λ p l s. none_before c.args.words.now c.word.result c.args.z c.word.ensures c.word.type_inv p l (omega (arith, c.if-found-end.false, s)) s
