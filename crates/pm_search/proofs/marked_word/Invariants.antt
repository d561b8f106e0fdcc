-- The first i bits say what the marks do.
use Rattle.pm_search.proofs.MarkWords.{TellsMarks}
use Rattle.pm_search.proofs.marked_word.Given as goal

abbrev pub invariant-loop-i : goal.invariant-loop-i
invariant-loop-i l = TellsMarks l.marks l.start l.i l.word
