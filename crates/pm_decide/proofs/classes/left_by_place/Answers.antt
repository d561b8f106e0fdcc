-- The class of the lowest bit goes where it contains the element, and is asked about no more.
use Rattle.std.proofs.Common.{refl, ◌∙◌, arith}
use Rattle.std.proofs.lemmas.Option.{slice_get_read}
use Rattle.pm_decide.proofs.Unmet.{fewer-live, fewer-within, both-fewer, live-within, asking-begun, asking-out, asking-on, asking-done}
use Rattle.pm_decide.proofs.classes.left_by_place.Goals as goal

pub loop-unasked-init : goal.loop-unasked-init
loop-unasked-init g c = record {
  same = refl;
  classes = c.requires.unmet;
  within = λ j h set. set;
  asking = asking-begun ((g.R.Reach.relation c.args.reach.now).below c.args.at) c.args.classes.now c.args.unmet;
}

pub bounds-classes-i : goal.bounds-classes-i
bounds-classes-i g c =
    live-within (g.R.Reach.relation c.args.reach.now) c.args.classes.now c.lowest-i.result
    (c.loop-unasked.invariant.classes c.lowest-i.result c.lowest-i.ensures.within c.lowest-i.ensures.set)

pub loop-unasked-preserved-then-contains : goal.loop-unasked-preserved-then-contains
loop-unasked-preserved-then-contains g c =
    let relation = g.R.Reach.relation c.args.reach.now in
    let pcs = c.args.classes.now in
    let i = c.lowest-i.result in
    let unasked = c.loop-unasked.unasked in
    let after = c.without_bit-unasked.result in
    let rest = c.without_bit-unasked.ensures.rest in
    let set = c.lowest-i.ensures.set in
    let there = live-within relation pcs i (c.loop-unasked.invariant.classes i c.lowest-i.ensures.within set) in
    let at = slice_get_read pcs _ _ _ refl there c.index-classes-i.is in
    record {
      same = c.contains.ensures.same ∙ c.loop-unasked.invariant.same;
      classes = fewer-live unasked i after rest relation pcs c.loop-unasked.invariant.classes;
      within = both-fewer unasked i after rest c.loop-unasked.left c.loop-unasked.invariant.within c.without_bit-left.result c.without_bit-left.ensures.rest;
      asking = asking-out (relation.below c.args.at) pcs c.args.unmet c.loop-unasked.left unasked i c.index-classes-i.result after at
          c.loop-unasked.invariant.asking set rest c.without_bit-left.result c.without_bit-left.ensures.rest
          (rw c.loop-unasked.invariant.same at c.if-contains.ensures.answer);
    }

pub loop-unasked-preserved : goal.loop-unasked-preserved
loop-unasked-preserved g c =
    let relation = g.R.Reach.relation c.args.reach.now in
    let pcs = c.args.classes.now in
    let i = c.lowest-i.result in
    let unasked = c.loop-unasked.unasked in
    let after = c.without_bit-unasked.result in
    let rest = c.without_bit-unasked.ensures.rest in
    let set = c.lowest-i.ensures.set in
    let there = live-within relation pcs i (c.loop-unasked.invariant.classes i c.lowest-i.ensures.within set) in
    let at = slice_get_read pcs _ _ _ refl there c.index-classes-i.is in
    record {
      same = c.contains.ensures.same ∙ c.loop-unasked.invariant.same;
      classes = fewer-live unasked i after rest relation pcs c.loop-unasked.invariant.classes;
      within = fewer-within unasked i after rest c.loop-unasked.left c.loop-unasked.invariant.within;
      asking = asking-on (relation.below c.args.at) pcs c.args.unmet c.loop-unasked.left unasked i c.index-classes-i.result after at
          c.loop-unasked.invariant.asking set rest (rw c.loop-unasked.invariant.same at c.if-contains.ensures.answer);
    }

pub returns-clause-left : goal.returns-clause-left
returns-clause-left g c =
    asking-done ((g.R.Reach.relation c.args.reach.now).below c.args.at) c.args.classes.now c.args.unmet c.loop-unasked.left c.loop-unasked.unasked
    (omega arith) c.loop-unasked.invariant.asking
