-- The class at i comes to the others where it contains the element.
use Rattle.std.proofs.Common.{refl, ◌∙◌, arith}
use Rattle.std.proofs.lemmas.Option.{slice_get_read}
use Rattle.pm_decide.proofs.Unmet.{one-more, none-more, all-found}
use Rattle.pm_decide.proofs.classes.containing.Goals as goal
use Rattle.pm_decide.proofs.classes.containing.Goals.{then-contains, else-contains}

pub loop-i-preserved : goal.loop-i-preserved
loop-i-preserved g c =
    let test = (g.R.Reach.relation c.args.reach.now).below c.args.element in
    let at = slice_get_read c.args.classes.now _ _ _ refl c.loop-i-test.true c.index-classes-i.is in
    record {
      same = c.contains.ensures.same ∙ c.loop-i.invariant.same;
      found = elim c.if-contains.branch [
        | then-contains w ↦ rw w.word-is (one-more test c.args.classes.now c.loop-i.i c.index-classes-i.result c.loop-i.word at c.loop-i.invariant.found
            w.with_bit-word.result w.with_bit-word.ensures (rw c.loop-i.invariant.same at w.if-contains.ensures.answer))
        | else-contains w ↦ rw w.word-is (none-more test c.args.classes.now c.loop-i.i c.index-classes-i.result c.loop-i.word at
            c.loop-i.invariant.found (rw c.loop-i.invariant.same at w.if-contains.ensures.answer))
      ];
    }

pub returns-clause-answer : goal.returns-clause-answer
returns-clause-answer g c =
    all-found ((g.R.Reach.relation c.args.reach.now).below c.args.element) c.args.classes.now c.loop-i.i c.loop-i.word (omega arith)
    c.loop-i.invariant.found
