-- One page more.
use Rattle.std.proofs.Common.{arith, refl, sym, ◌∙◌, ◌/◌, inl, inr}
use Rattle.std.proofs.lemmas.Bool.{cases_lt, false_from_ne_true}
use Rattle.pm_reach.specs.Words.{in_row}
use Rattle.pm_reach.specs.Rows.{below}
use Rattle.pm_reach.proofs.Finding.{found_here, found_none}
use Rattle.pm_reach.proofs.inside.mark_inside.Goals as goal
use Rattle.pm_reach.proofs.inside.mark_inside.Goals.{then-has, else-has}

pub loop-k-init : goal.loop-k-init
loop-k-init c = record {
  long = refl;
  found = record {
    before = λ q l. c.requires.none q ∙ sym (false_from_ne_true (below c.args.table.now.rows q c.args.x) (λ h. omega (arith, l, c.requires.span.from q h)));
    rest = λ q l. c.requires.none q;
  };
}

pub loop-k-preserved : goal.loop-k-preserved
loop-k-preserved c = elim c.if-has.branch [
  | then-has w ↦ record {
    long = rw w.row-is (w.mark.ensures.long ∙ c.loop-k.invariant.long);
    found =
        rw w.row-is (found_here c.args.table.now.rows c.args.x c.loop-k.k (in_row c.loop-k.row) (in_row w.mark.new.into) c.loop-k.invariant.found w.mark.ensures.here w.mark.ensures.others);
  }
  | else-has w ↦ record {
    long = rw w.row-is c.loop-k.invariant.long;
    found =
        rw w.row-is (found_none c.args.table.now.rows c.args.unions.now.rows c.args.x c.loop-k.k (in_row c.loop-k.row) c.requires.unions (sym c.has.ensures ∙ w.if-has.false) c.loop-k.invariant.found);
  }
]

pub returns : goal.returns
returns c = λ q. elim (cases_lt (q / 64) c.loop-k.k) [
  | inl l ↦ c.loop-k.invariant.found.before q l
  | inr l ↦
      c.loop-k.invariant.found.rest q l
      ∙ sym (false_from_ne_true (below c.args.table.now.rows q c.args.x) (λ h. omega (arith, l, c.loop-k-test.false, c.requires.span.to q h)))
]
