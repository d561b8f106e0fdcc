-- One number more.
use Rattle.std.proofs.Common.{arith, refl, ◌∙◌, ◌==◌, get_or}
use Rattle.std.proofs.lemmas.Bool.{eq-eqb}
use Rattle.std.proofs.lemmas.List.Folds.{list_any_at}
use Rattle.pm_reach.proofs.Bits.{put_more}
use Rattle.pm_reach.proofs.words.put.Goals as goal

pub set_bit-requires : goal.set_bit-requires
set_bit-requires c =
    let n = get_or c.args.numbers.now c.loop-n.n-index 0 in
    let fits = c.requires.fits n (list_any_at (λ m. m == n) c.args.numbers.now c.loop-n.n-index 0 c.loop-n-test.true (eq-eqb n n refl)) in
    omega (arith, fits)

pub loop-n-preserved : goal.loop-n-preserved
loop-n-preserved c = record {
  long = c.set_bit.ensures.long ∙ c.loop-n.invariant.long;
  held = put_more c.loop-n.words c.set_bit.new.words c.args.numbers.now c.loop-n.n-index c.loop-n-test.true c.loop-n.invariant.held c.set_bit.ensures.set;
}
