-- The rights that the class at i leaves are met with the others.
use Rattle.std.proofs.Common.{ℕ, Bool, ◌+◌, drop, refl, sym, ◌∙◌}
use Rattle.std.proofs.lemmas.Bool.{eqb-true}
use Rattle.std.proofs.lemmas.List.Elements.{All-contains}
use Rattle.std.specs.List.{list_any, list_all}
use Rattle.pm_model.specs.Decision.{classes_of}
use Rattle.pm_model.specs.declared.rights.Grant.{Grant}
use Rattle.pm_decide.specs.Gives.{gives}
use Rattle.pm_decide.specs.Live.{IsLive}
use Rattle.pm_decide.proofs.RightSets.{meeting-begun, met_none}
use Rattle.pm_given.proofs.Above.{held-more, held-done, all-at}
use Rattle.pm_given.proofs.joins.rights_held.Goals as goal

pub loop-i-init : goal.loop-i-init
loop-i-init g c = record { same = refl; meeting = λ L told. meeting-begun _ }

pub rights_left-left-requires-clause-class : goal.rights_left-left-requires-clause-class
rights_left-left-requires-clause-class g c =
    rw c.loop-i.invariant.same (all-at (IsLive (g.R.Reach.relation c.args.reach.now)) c.args.classes.now c.loop-i.i c.at-class.result.now c.at-class.ensures c.requires.classes)

pub returns-then-is_empty-clause-answer : goal.returns-then-is_empty-clause-answer
returns-then-is_empty-clause-answer g c = λ L told.
    let below = (g.R.Reach.relation c.args.reach.now).below in
    let test : ℕ → ℕ → Bool = λ r pc. list_any (gives below r c.args.element pc) L in
    met_none c.common-rights.result (λ r. list_all (test r) (classes_of below (drop (c.loop-i.i + 1) c.args.classes.now) c.args.element))
    (λ r. list_all (test r) (classes_of below c.args.classes.now c.args.element))
    (held-more below test c.args.classes.now c.args.element c.loop-i.i c.at-class.result.now c.loop-i.rights c.rights_left-left.result c.common-rights.result
    (λ r. list_all (test r) (classes_of below c.args.classes.now c.args.element))
    (c.loop-i.invariant.meeting L told) c.at-class.ensures (rw c.loop-i.invariant.same at (c.rights_left-left.ensures.answer L told)) c.common-rights.ensures)
    (eqb-true c.common-rights.result 0 (sym c.is_empty.ensures ∙ c.if-is_empty.true))

pub loop-i-preserved : goal.loop-i-preserved
loop-i-preserved g c =
    let below = (g.R.Reach.relation c.args.reach.now).below in
    record {
      same = c.rights_left-left.ensures.same ∙ c.loop-i.invariant.same;
      meeting = λ L told.
          let test : ℕ → ℕ → Bool = λ r pc. list_any (gives below r c.args.element pc) L in
          held-more below test c.args.classes.now c.args.element c.loop-i.i c.at-class.result.now c.loop-i.rights c.rights_left-left.result c.common-rights.result
          (λ r. list_all (test r) (classes_of below c.args.classes.now c.args.element))
          (c.loop-i.invariant.meeting L told) c.at-class.ensures (rw c.loop-i.invariant.same at (c.rights_left-left.ensures.answer L told)) c.common-rights.ensures;
    }

pub returns-clause-answer : goal.returns-clause-answer
returns-clause-answer g c = λ L told r h.
    let below = (g.R.Reach.relation c.args.reach.now).below in
    let test : ℕ → ℕ → Bool = λ r pc. list_any (gives below r c.args.element pc) L in
    let done = held-done below test c.args.classes.now c.args.element c.loop-i.i c.loop-i.rights
    (λ r. list_all (test r) (classes_of below c.args.classes.now c.args.element)) (c.loop-i.invariant.meeting L told)
    (rw (← c.len-i-end.ensures) c.loop-i-test.false) r h in
    let view = c.rights.view_is in
    cc
