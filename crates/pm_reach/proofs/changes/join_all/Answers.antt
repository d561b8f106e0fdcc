-- z is passed, and so are those from there to the next one.
use Rattle.std.proofs.Common.{arith, refl, sym, ◌∙◌}
use Rattle.pm_reach.proofs.Passing.{Passed-none, Passed-yes, Passed-by, Passed-all}
use Rattle.pm_reach.proofs.changes.join_all.Goals as goal

pub loop-z-init : goal.loop-z-init
loop-z-init c = record {
  few = omega arith;
  to = c.next-z.ensures.to;
  there = c.next-z.ensures.there;
  passed =
      Passed-by c.next-z.result (Passed-none c.requires.inside.spans c.requires.ready) c.next-z.ensures.from
      (λ p l s. sym (c.requires.inside.same p) ∙ c.next-z.ensures.none p l s);
}

pub loop-z-preserved : goal.loop-z-preserved
loop-z-preserved c =
    let next = c.next-z-in-loop-z in
    record {
      few = omega (arith, c.loop-z.invariant.few, next.ensures.from);
      to = next.ensures.to;
      there = next.ensures.there;
      passed = Passed-by next.result
          (Passed-yes c.loop-z.invariant.passed (sym (c.requires.inside.same c.loop-z.z) ∙ c.loop-z.invariant.there c.loop-z-test.true) c.join.ensures.writes
          (λ q. c.join.ensures.row q ∙ rw (c.loop-z.invariant.passed.rest c.loop-z.z (omega arith)) refl)) next.ensures.from
          (λ p l s. sym (c.requires.inside.same p) ∙ next.ensures.none p l s);
    }

pub returns : goal.returns
returns c = Passed-all c.loop-z.invariant.passed (λ p h. omega (arith, c.loop-z-test.false, c.requires.inside.spans.to p h)) c.loop-z.invariant.to
