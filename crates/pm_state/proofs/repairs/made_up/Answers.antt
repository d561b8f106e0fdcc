use Rattle.std.proofs.Common.{subst}
use Rattle.pm_state.specs.Repairs.{IsDue}
use Rattle.pm_state.specs.declared.repairs.Repair.{Repair}
use Rattle.pm_affect.proofs.Were.{removed-were}
use Rattle.pm_state.proofs.Charged.{less-charged}
use Rattle.pm_state.proofs.Repaired.{due-drop}
use Rattle.pm_state.proofs.repairs.made_up.Goals as goal

pub returns-in-Less-clause-listed : goal.returns-in-Less-clause-listed
returns-in-Less-clause-listed c =
    let L = c.args.lists in
    let H = c.args.graph.now in
    rw (c.remove.ensures) (due-drop L H c.in-Less.of (subst (λ (asked : Repair). IsDue L H asked) c.in-Less.is c.requires))

pub returns-in-Less-clause-charged : goal.returns-in-Less-clause-charged
returns-in-Less-clause-charged c =
    rw (c.remove.ensures, c.in-Less.is) (less-charged c.args.lists c.args.graph.now c.in-Less.of c.kept.ensures)

pub returns-in-More-clause-charged : goal.returns-in-More-clause-charged
returns-in-More-clause-charged c = rw (c.in-More.is) c.insert.ensures.charged

pub returns-in-Within-clause-charged : goal.returns-in-Within-clause-charged
returns-in-Within-clause-charged c = rw (c.in-Within.is) c.repair_within.ensures.charged

pub returns-in-Less-clause-were : goal.returns-in-Less-clause-were
returns-in-Less-clause-were c = rw (c.remove.ensures) (λ G. removed-were G c.in-Less.of c.args.lists)
