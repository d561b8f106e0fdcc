-- The place at i comes to the others where the obligation matches and isn't left out.
use Rattle.std.proofs.Common.{◌≡◌, ◌∙◌, sym, ◌∷◌, [], false, refl, length-append, arith}
use Rattle.pm_runner.specs.Standing.{is_at, is_match}
use Rattle.pm_runner.proofs.Places.{one-passes, one-fails, fails-left, none-but, live-at, below-more}
use Rattle.pm_runner.proofs.matched.places_of.Goals as goal
use Rattle.pm_runner.proofs.matched.places_of.Goals.{then-matches+in_ok-push, else-matches}

pub returns-then-not-may_match-clause-places : goal.returns-then-not-may_match-clause-places
returns-then-not-may_match-clause-places g c =
    let none = none-but (g.R.Reach.relation c.args.reach.now).below c.args.left_out c.args.obligations.now.items c.args.event.now (c.if-not-may_match.ensures.none refl) in
    rw (none, c.new.ensures) refl

pub returns-in_err-push-clause-free : goal.returns-in_err-push-clause-free
returns-in_err-push-clause-free g c none =
    let before = g.R.Reach.relation c.args.reach.now in
    let other : is_at c.args.left_out c.loop-i.i ≡ false = sym c.is_at.ensures ∙ c.if-is_at.false in
    let passes = rw c.loop-i.invariant.same at c.if-matches.ensures.answer in
    let fails = fails-left (is_match before.below c.args.event.now) c.args.left_out c.args.obligations.now.items c.loop-i.i c.at-obligation.result.now c.at-obligation.ensures.obligation other none in
    absurd (cc)

pub matches-requires-clause-pattern : goal.matches-requires-clause-pattern
matches-requires-clause-pattern g c =
    rw c.loop-i.invariant.same
    (live-at (g.R.Reach.relation c.args.reach.now) c.args.obligations.now.items c.loop-i.i c.at-obligation.result.now c.requires.patterns c.at-obligation.ensures.obligation)

pub loop-i-preserved : goal.loop-i-preserved
loop-i-preserved g c =
    let other : is_at c.args.left_out c.loop-i.i ≡ false = sym c.is_at.ensures ∙ c.if-is_at.false in
    elim c.if-matches.branch [
      | then-matches+in_ok-push w ↦ record {
        same = c.matches.ensures.same ∙ c.loop-i.invariant.same;
        places = rw (w.places-is, w.in_ok-push.ensures.ok)
            (one-passes _ c.args.left_out _ c.loop-i.places c.loop-i.i c.at-obligation.result.now c.loop-i.invariant.places c.at-obligation.ensures.obligation other
            (rw c.loop-i.invariant.same at w.if-matches.ensures.answer));
        below = rw (w.places-is, w.in_ok-push.ensures.ok) (below-more _ c.loop-i.places c.loop-i.i c.loop-i.invariant.below (omega arith));
        few = rw (w.places-is, w.in_ok-push.ensures.ok) (omega (arith, length-append c.loop-i.places (c.loop-i.i ∷ [])));
        run = c.at-obligation.ensures.run;
      }
      | else-matches w ↦ record {
        same = c.matches.ensures.same ∙ c.loop-i.invariant.same;
        places = rw w.places-is
            (one-fails _ c.args.left_out _ c.loop-i.places c.loop-i.i c.at-obligation.result.now c.loop-i.invariant.places c.at-obligation.ensures.obligation other
            (rw c.loop-i.invariant.same at w.if-matches.ensures.answer));
        below = rw w.places-is c.loop-i.invariant.below;
        few = rw w.places-is (omega arith);
        run = c.at-obligation.ensures.run;
      }
    ]
