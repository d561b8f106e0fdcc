-- The rights that the class at i leaves are met with the others.
use Rattle.std.proofs.Common.{◌∙◌, refl, sym}
use Rattle.std.proofs.lemmas.Bool.{eqb-true}
use Rattle.pm_model.specs.Decision.{associations_of}
use Rattle.pm_decide.proofs.Privileges.{privileges-more, privileges-none}
use Rattle.pm_decide.proofs.RightSets.{meeting-begun}
use Rattle.pm_decide.proofs.rights.privileges_of.Goals as goal

pub loop-i-init : goal.loop-i-init
loop-i-init g c = record { same = refl; meeting = meeting-begun _ }

pub returns-then-is_empty-clause-answer : goal.returns-then-is_empty-clause-answer
returns-then-is_empty-clause-answer g c =
    privileges-none (g.R.Reach.relation c.args.reach.now).below (associations_of (g.G.Grants.grantees c.args.grants.now)) c.args.classes.now
    c.args.user c.args.element c.loop-i.i c.at-class.result.now c.loop-i.rights c.rights_in-in_class.result c.common-rights.result
    c.loop-i.invariant.meeting c.at-class.ensures (rw c.loop-i.invariant.same at c.rights_in-in_class.ensures.answer) c.common-rights.ensures
    (eqb-true c.common-rights.result 0 (sym c.is_empty.ensures ∙ c.if-is_empty.true))

pub loop-i-preserved : goal.loop-i-preserved
loop-i-preserved g c = record {
  same = c.rights_in-in_class.ensures.same ∙ c.loop-i.invariant.same;
  meeting = privileges-more (g.R.Reach.relation c.args.reach.now).below (associations_of (g.G.Grants.grantees c.args.grants.now)) c.args.classes.now
      c.args.user c.args.element c.loop-i.i c.at-class.result.now c.loop-i.rights c.rights_in-in_class.result c.common-rights.result
      c.loop-i.invariant.meeting c.at-class.ensures (rw c.loop-i.invariant.same at c.rights_in-in_class.ensures.answer) c.common-rights.ensures;
}
