-- The rights at the element of the lowest bit come to the others.
use Rattle.std.proofs.Common.{ℕ, Bool, ◌+◌, ◌*◌, ◌&&◌, get_or, sym, ◌∙◌, refl, arith}
use Rattle.std.proofs.lemmas.Bool.{and_parts}
use Rattle.std.specs.List.{list_any}
use Rattle.pm_model.specs.RightSet.{has_right}
use Rattle.pm_decide.proofs.RightSets.{joining-more, joining-done}
use Rattle.pm_given.specs.Joins.{gives_in}
use Rattle.pm_given.proofs.Above.{hit-step, hit-none}
use Rattle.pm_given.proofs.joins.rights_of_word.Goals as goal

pub loop-left-preserved : goal.loop-left-preserved
loop-left-preserved g c =
    let below = (g.R.Reach.relation c.args.reach.now).below in
    let own = c.args.own.now in
    let k = c.args.k in
    let i = c.lowest-i.result in
    let rest = c.without_bit-left.result in
    let class = c.args.class in
    record {
      same = c.rights_at-more.ensures.same ∙ c.loop-left.invariant.same;
      less = λ j h b. c.loop-left.invariant.less j h (and_parts _ _ (sym (c.without_bit-left.ensures.rest j h) ∙ b)).0;
      joining = λ L marks e told held. rw c.union-rights.ensures (joining-more c.loop-left.rights c.rights_at-more.result
          (λ r. below (64 * k + i) class && has_right (get_or own (64 * k + i) 0) r) (λ r. list_any (gives_in below k rest r e class) L)
          (λ r. list_any (gives_in below k c.loop-left.left r e class) L) (λ r. list_any (gives_in below k c.args.word r e class) L)
          (c.loop-left.invariant.joining L marks e told held) (rw c.loop-left.invariant.same at c.rights_at-more.ensures.answer)
          (λ r. hit-step k c.loop-left.left i c.lowest-i.ensures.within c.lowest-i.ensures.set rest c.without_bit-left.ensures.rest below r e class
          L own marks told (held i c.lowest-i.ensures.within (c.loop-left.invariant.less i c.lowest-i.ensures.within c.lowest-i.ensures.set))));
    }

pub returns-clause-answer : goal.returns-clause-answer
returns-clause-answer g c = λ L marks e told held.
    let below = (g.R.Reach.relation c.args.reach.now).below in
    joining-done c.loop-left.rights (λ r. list_any (gives_in below c.args.k c.loop-left.left r e c.args.class) L)
    (λ r. list_any (gives_in below c.args.k c.args.word r e c.args.class) L) (c.loop-left.invariant.joining L marks e told held)
    (λ r. hit-none below c.args.k c.loop-left.left r e c.args.class L (omega (arith, c.loop-left-test.false)))
