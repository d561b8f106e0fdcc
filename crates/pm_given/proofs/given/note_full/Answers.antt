-- The place of the word comes to the others.
use Rattle.std.proofs.Common.{◌∙◌, take, refl, arith}
use Rattle.pm_given.proofs.Above.{noted-begun, noted-more, noted-done}
use Rattle.pm_given.proofs.given.note_full.Goals as goal

pub loop-k-init : goal.loop-k-init
loop-k-init c = record { most = omega arith; fits = omega arith; long = refl; noted = noted-begun c.args.words.now }

pub loop-k-preserved : goal.loop-k-preserved
loop-k-preserved c = record {
  most = omega (arith, c.note-count.ensures.most, c.loop-k.invariant.most);
  fits = omega (arith, c.note-count.ensures.most, c.note-count.ensures.length, c.loop-k.invariant.most, c.loop-k.invariant.long, c.requires.room, c.loop-k-test.true);
  long = c.note-count.ensures.length ∙ c.loop-k.invariant.long;
  noted = rw (c.note-count.ensures.places)
      (noted-more c.loop-k.k (take c.loop-k.count c.loop-k.places) c.args.words.now c.loop-k.invariant.noted c.loop-k-test.true);
}

pub returns-clause-noted : goal.returns-clause-noted
returns-clause-noted c =
    noted-done c.loop-k.k (take c.loop-k.count c.loop-k.places) c.args.words.now c.loop-k.invariant.noted c.loop-k-test.false
