-- One more, and none from there to the next.
use Rattle.std.proofs.Common.{ap, arith, sym, ◌∙◌, ◌+◌}
use Rattle.std.proofs.lemmas.Bool.{false_from_ne_true, true≢false}
use Rattle.pm_reach.specs.Words.{in_row}
use Rattle.pm_reach.proofs.Passing.{count-all, count-none, count-yes}
use Rattle.pm_reach.proofs.inside.Inside.count.Goals as goal

pub loop-z-init : goal.loop-z-init
loop-z-init c =
    let test = in_row c.args.self.now.row.items in
    record {
      few = omega arith;
      to = c.next-z.ensures.to;
      there = c.next-z.ensures.there;
      counted = sym (count-none test c.next-z.result
          (λ p short. false_from_ne_true (test p) (λ h. true≢false (sym h ∙ c.next-z.ensures.none p (c.requires.from p h) short))));
    }

pub loop-z-preserved : goal.loop-z-preserved
loop-z-preserved c =
    let next = c.next-z-in-loop-z in
    let test = in_row c.args.self.now.row.items in
    record {
      few = omega (arith, c.loop-z.invariant.few, next.ensures.from);
      to = next.ensures.to;
      there = next.ensures.there;
      counted = ap (λ n. n + 1) c.loop-z.invariant.counted ∙ sym (count-yes test c.loop-z.z (c.loop-z.invariant.there c.loop-z-test.true))
          ∙ sym (count-all test (c.loop-z.z + 1) next.result next.ensures.from next.ensures.none);
    }

pub returns : goal.returns
returns c =
    let test = in_row c.args.self.now.row.items in
    c.loop-z.invariant.counted ∙ sym (count-all test c.loop-z.z _ c.loop-z.invariant.to
    (λ p from short. false_from_ne_true (test p) (λ h. omega (arith, c.loop-z-test.false, from, c.requires.to p h))))
