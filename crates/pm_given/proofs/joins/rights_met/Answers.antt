-- The rights at the elements of the word come to the others.
use Rattle.std.proofs.Common.{◌≡◌, ◌<◌, ℕ, Bool, ◌+◌, length, drop, get_or, slice_get, Some, sym, ◌∙◌, refl}
use Rattle.std.proofs.lemmas.Bool.{and_parts}
use Rattle.std.proofs.lemmas.Option.{slice_get-get_or}
use Rattle.std.specs.List.{list_any}
use Rattle.pm_decide.specs.Gives.{gives}
use Rattle.pm_decide.proofs.RightSets.{joining-from, joining-more, joining-done}
use Rattle.pm_given.specs.Joins.{AreIn, gives_in}
use Rattle.pm_given.proofs.Above.{gives_among, among-begun, among-step, among-done, all-at}
use Rattle.pm_given.proofs.joins.rights_met.Goals as goal

pub loop-i-init : goal.loop-i-init
loop-i-init g c =
    let below = (g.R.Reach.relation c.args.reach.now).below in
    record {
      same = refl;
      joining = λ L told. joining-from (λ r. list_any (gives_among below c.args.places.now r c.args.element c.args.class) L)
          (λ r. list_any (gives below r c.args.element c.args.class) L)
          (λ r. among-begun below r c.args.element c.args.class L c.args.own.now c.args.marks.now told c.args.places.now c.requires.noted.full);
    }

pub marked_above-word-requires-clause-within : goal.marked_above-word-requires-clause-within
marked_above-word-requires-clause-within g c =
    let places = c.args.places.now in
    all-at (λ k. k < length c.args.marks.now) places c.loop-i.i (get_or places c.loop-i.i 0) (slice_get-get_or places c.loop-i.i 0 c.loop-i-test.true) c.requires.noted.within

pub loop-i-preserved : goal.loop-i-preserved
loop-i-preserved g c =
    let below = (g.R.Reach.relation c.args.reach.now).below in
    let own = c.args.own.now in
    let marks = c.args.marks.now in
    let places = c.args.places.now in
    let i = c.loop-i.i in
    let k = get_or places i 0 in
    let word = c.marked_above-word.result in
    let e = c.args.element in
    let class = c.args.class in
    let at : slice_get places i ≡ Some k = slice_get-get_or places i 0 c.loop-i-test.true in
    let within : AreIn (g.R.Reach.relation c.loop-i.reach).below e k word = λ j h b. (and_parts _ _ (sym (c.marked_above-word.ensures.word j h) ∙ b)).1 in
    record {
      same = c.rights_of_word-more.ensures.same ∙ c.marked_above-word.ensures.same ∙ c.loop-i.invariant.same;
      joining = λ L told. rw c.union-rights.ensures (joining-more c.loop-i.rights c.rights_of_word-more.result
          (λ r. list_any (gives_in below k word r e class) L) (λ r. list_any (gives_among below (drop (i + 1) places) r e class) L)
          (λ r. list_any (gives_among below (drop i places) r e class) L) (λ r. list_any (gives below r e class) L)
          (c.loop-i.invariant.joining L told)
          (rw (c.marked_above-word.ensures.same, c.loop-i.invariant.same) at (c.rights_of_word-more.ensures.answer L marks e told (rw c.marked_above-word.ensures.same within)))
          (λ r. among-step below r e class L own marks told places i k word at (rw c.loop-i.invariant.same at c.marked_above-word.ensures.word)));
    }

pub returns-clause-answer : goal.returns-clause-answer
returns-clause-answer g c = λ L told.
    let below = (g.R.Reach.relation c.args.reach.now).below in
    joining-done c.loop-i.rights (λ r. list_any (gives_among below (drop c.loop-i.i c.args.places.now) r c.args.element c.args.class) L)
    (λ r. list_any (gives below r c.args.element c.args.class) L) (c.loop-i.invariant.joining L told)
    (λ r. among-done below r c.args.element c.args.class L c.args.places.now c.loop-i.i c.loop-i-test.false)
