-- Bit i is set where the mark is.
use Rattle.std.proofs.Common.{◌∙◌, sym}
use Rattle.pm_search.proofs.MarkWords.{TellsMarks, no_bits, all_bits, marked_bit, unmarked_bit}
use Rattle.pm_search.proofs.marked_word.Goals as goal
use Rattle.pm_search.proofs.marked_word.Goals.{then-is_marked, else-is_marked}

pub loop-i-init : goal.loop-i-init
loop-i-init c = no_bits c.args.marks.now c.args.start

pub loop-i-preserved : goal.loop-i-preserved
loop-i-preserved c = elim c.if-is_marked.branch [
  | then-is_marked w ↦ rw (w.word-is) (marked_bit c.args.marks.now c.args.start c.loop-i.i c.loop-i.word c.loop-i-test.true c.loop-i.invariant (sym c.is_marked.ensures ∙ w.if-is_marked.true))
  | else-is_marked w ↦ rw (w.word-is) (unmarked_bit c.args.marks.now c.args.start c.loop-i.i c.loop-i.word c.loop-i.invariant (sym c.is_marked.ensures ∙ w.if-is_marked.false))
]

pub returns : goal.returns
returns c = all_bits c.args.marks.now c.args.start c.loop-i.i c.loop-i.word c.loop-i-test.false c.loop-i.invariant
