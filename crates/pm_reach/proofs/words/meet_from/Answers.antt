-- One word more; past the end of one of the rows nothing is in both.
use Rattle.std.proofs.Common.{◌∙◌, ◌/◌, ◌≡◌, sym, inl, inr, length, arith}
use Rattle.std.proofs.lemmas.Bool.{cases_lt, true≢false}
use Rattle.pm_reach.proofs.Bits.{past_row}
use Rattle.pm_reach.proofs.WholeWords.{words_apart}
use Rattle.pm_reach.proofs.words.meet_from.Goals as goal

pub loop-i-init : goal.loop-i-init
loop-i-init c = λ q from short h. absurd (omega (arith, from, short))

pub loop-i-preserved : goal.loop-i-preserved
loop-i-preserved c = λ q from short h. elim (cases_lt (q / 64) c.loop-i.i) [
  | inl l ↦ c.loop-i.invariant q from l h
  | inr l ↦
      let here : q / 64 ≡ c.loop-i.i = omega (arith, l, short) in
      words_apart c.args.words.now c.args.other.now q (rw here c.if-words-i-ne0.false) h
]

pub returns : goal.returns
returns c = λ none q from h. elim (cases_lt (q / 64) c.loop-i.i) [
  | inl l ↦ c.loop-i.invariant q from l h
  | inr l ↦ elim (cases_lt (q / 64) (length c.args.words.now)) [
    | inl short ↦ past_row c.args.other.now q (grind (arith, c.min-i-end.ensures, c.loop-i-test.false, l, short))
    | inr long ↦ absurd (true≢false (sym h ∙ past_row c.args.words.now q long))
  ]
]
