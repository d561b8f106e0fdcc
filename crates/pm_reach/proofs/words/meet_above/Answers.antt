-- A number above z is in the word of z, or in a later one.
use Rattle.std.proofs.Common.{◌/◌, inl, inr, arith}
use Rattle.std.proofs.lemmas.Bool.{cases_eq}
use Rattle.pm_reach.proofs.WholeWords.{above_apart}
use Rattle.pm_reach.proofs.words.meet_above.Goals as goal

pub returns : goal.returns
returns c = λ none q above h. elim (cases_eq (q / 64) (c.args.z / 64)) [
  | inl same ↦
      above_apart c.args.words.now c.args.other.now c.word.result c.word-2.result c.args.z c.word.ensures c.word-2.ensures c.if-here-z-ne0.false q same above h
  | inr apart ↦ c.meet_from.ensures none q (omega (arith, above, apart)) h
]
