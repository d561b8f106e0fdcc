-- z is passed, and so are those from there to the next one.
use Rattle.std.proofs.Common.{arith, sym, ◌∙◌, refl, length, inl, inr}
use Rattle.pm_reach.proofs.Gathering.{passed-tell, passed-last, passed-within}
use Rattle.pm_reach.proofs.Passing.{Passed-none, Passed-yes, Passed-by, Passed-all, has_below}
use Rattle.pm_reach.proofs.changes.remake_all.Goals as goal

pub loop-z-init : goal.loop-z-init
loop-z-init g c = record {
  few = omega arith;
  to = c.next-z.ensures.to;
  there = c.next-z.ensures.there;
  none = c.requires.none;
  long = refl;
  passed =
      Passed-by c.next-z.result (Passed-none c.requires.inside.spans c.requires.ready) c.next-z.ensures.from
      (λ p l s. sym (c.requires.inside.same p) ∙ c.next-z.ensures.none p l s);
}

pub remake-requires-clause-live : goal.remake-requires-clause-live
remake-requires-clause-live g c =
    c.requires.live c.loop-z.z (has_below c.args.table.now.rows c.loop-z.z c.args.inside.now.of
    (sym (c.requires.inside.same c.loop-z.z) ∙ c.loop-z.invariant.there c.loop-z-test.true))

pub remake-requires-clause-told : goal.remake-requires-clause-told
remake-requires-clause-told g c =
    rw c.number.ensures (passed-tell (g.P.Parents.assigned c.args.parents.now) c.loop-z.invariant.passed c.requires.outside)

pub remake-requires-clause-fits : goal.remake-requires-clause-fits
remake-requires-clause-fits g c = elim c.requires.fits [
  | inl rising ↦ inl (rw c.number.ensures (passed-last (g.P.Parents.assigned c.args.parents.now) c.loop-z.invariant.passed c.requires.less rising
      (sym (c.requires.inside.same c.loop-z.z) ∙ c.loop-z.invariant.there c.loop-z-test.true)))
  | inr fits ↦ inr (λ w h. rw c.loop-z.auto.marks (fits w h))
]

pub remake-requires-clause-within : goal.remake-requires-clause-within
remake-requires-clause-within g c =
    rw c.loop-z.invariant.long
    (passed-within (g.P.Parents.assigned c.args.parents.now) c.loop-z.invariant.passed (length c.args.row.now) c.requires.less c.requires.within)

pub loop-z-preserved : goal.loop-z-preserved
loop-z-preserved g c =
    let next = c.next-z-in-loop-z in
    record {
      few = omega (arith, c.loop-z.invariant.few, next.ensures.from);
      to = next.ensures.to;
      there = next.ensures.there;
      none = c.remake.ensures.none;
      long = c.remake.ensures.long ∙ c.loop-z.invariant.long;
      passed = Passed-by next.result
          (Passed-yes c.loop-z.invariant.passed (sym (c.requires.inside.same c.loop-z.z) ∙ c.loop-z.invariant.there c.loop-z-test.true) c.remake.ensures.writes c.remake.ensures.row)
          next.ensures.from (λ p l s. sym (c.requires.inside.same p) ∙ next.ensures.none p l s);
    }

pub returns : goal.returns
returns g c = Passed-all c.loop-z.invariant.passed (λ p h. omega (arith, c.loop-z-test.false, c.requires.inside.spans.to p h)) c.loop-z.invariant.to
