-- z is passed, and so are those from there to the next one; the union of the page of z has the other row.
use Rattle.std.proofs.Common.{◌≡◌, ◌+◌, ◌/◌, ℕ, true, arith, sym, ◌∙◌}
use Rattle.pm_reach.specs.Words.{in_row}
use Rattle.pm_reach.specs.Rows.{below}
use Rattle.pm_reach.specs.Unions.{Keeps}
use Rattle.pm_reach.proofs.Readying.{Readied-none, Readied-more}
use Rattle.pm_reach.proofs.ready.ready_all.Goals as goal
use Rattle.pm_reach.proofs.ready.ready_all.Goals.{then-covered-z+in_ok-cover, else-covered-z}

pub loop-z-init : goal.loop-z-init
loop-z-init c = record {
  to = c.next-z.ensures.to;
  there = c.next-z.ensures.there;
  order = omega arith;
  last = λ k q h other. absurd (omega (arith, h));
  readied = Readied-none c.requires.inside.spans c.requires.unions (λ p l s. sym (c.requires.inside.same p) ∙ c.next-z.ensures.none p l s);
}

pub loop-z-preserved : goal.loop-z-preserved
loop-z-preserved c =
    let z : ℕ = c.loop-z.z in
    let next = c.next-z-in-loop-z in
    let after = c.if-covered-z.unions.rows in
    let done : Keeps c.loop-z.unions.rows after × ((q : ℕ) → in_row c.args.other.now q ≡ true → below after (z / 64) q ≡ true) × (c.if-covered-z.covered ≡ z / 64 + 1) = elim c.if-covered-z.branch [
      | then-covered-z+in_ok-cover w ↦ (rw w.unions-is w.in_ok-cover.ensures.keeps, rw w.unions-is w.in_ok-cover.ensures.covered, w.covered-is)
      | else-covered-z w ↦ (
        rw w.unions-is (λ k q h. h),
        rw w.unions-is (λ q h. c.loop-z.invariant.last (z / 64) q (omega (arith, w.if-covered-z.false, c.loop-z.invariant.order)) h),
        omega (arith, w.if-covered-z.false, w.covered-is, c.loop-z.invariant.order),
      )
    ] in
    record {
      to = next.ensures.to;
      there = next.ensures.there;
      order = omega (arith, done.2, next.ensures.from);
      last = λ k q h other. let here : k ≡ z / 64 = omega (arith, h, done.2) in rw here (done.1 q other);
      readied =
          Readied-more c.loop-z.invariant.readied c.in_ok-ready.ensures.rows c.in_ok-ready.ensures.stays c.in_ok-ready.ensures.room done.0 done.1
          (λ p l s. sym (c.requires.inside.same p) ∙ next.ensures.none p l s);
    }
