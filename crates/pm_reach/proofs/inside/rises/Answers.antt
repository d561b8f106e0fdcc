-- One number more.
use Rattle.std.proofs.Common.{sym, ◌∙◌, arith}
use Rattle.std.proofs.lemmas.Bool.{true≢false}
use Rattle.pm_reach.proofs.Rising.{rises_more}
use Rattle.pm_reach.proofs.inside.rises.Goals as goal

pub loop-z-init : goal.loop-z-init
loop-z-init c = record {
  to = c.next-z.ensures.to;
  there = c.next-z.ensures.there;
  rises = λ p w short h k up.
      absurd (true≢false (sym h ∙ sym (c.requires.same p) ∙ c.next-z.ensures.none p (c.requires.spans.from p h) short));
}

pub loop-z-preserved : goal.loop-z-preserved
loop-z-preserved c =
    let next = c.next-z-in-loop-z in
    record {
      to = next.ensures.to;
      there = next.ensures.there;
      rises =
          rises_more c.args.table.now.rows c.args.inside.now.of c.args.inside.now.row.items c.words.result.now c.loop-z.z next.result c.loop-z.invariant.rises
          c.requires.same c.words.ensures (rw c.as_slice.ensures.value at c.meet_above.ensures c.if-meet_above.false) next.ensures.none;
    }

pub returns : goal.returns
returns c = λ z w h k up. c.loop-z.invariant.rises z w (omega (arith, c.loop-z-test.false, c.requires.spans.to z h)) h k up
