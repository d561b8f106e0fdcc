-- The turn is that of an obligation which stands in the draft's graph.
use Rattle.std.proofs.Common.{sym, subst}
use Rattle.pm_model.specs.Formed.{IsWellFormed}
use Rattle.pm_runner.specs.Turns.{IsTurn}
use Rattle.pm_step.specs.Responders.{Underway}
use Rattle.pm_step.proofs.Acting.{obligation-there, action-there, author-is-user, acted-is, acted-counted, responders-stay-either, place-below}
use Rattle.pm_step.proofs.responding.RespondingActs.act.Goals as goal

pub at-at-requires : goal.at-at-requires
at-at-requires c =
    let s = c.self.inside in
    obligation-there s.names s.version s.obligations.now.items s.places.now s.draft.graph c.args.place c.self.invariant
    (subst (λ (u : Underway). IsTurn u.occasion u.draft.graph c.args.place) (sym c.self.view_is) c.requires)

pub at-obligation-requires : goal.at-obligation-requires
at-obligation-requires c = place-below _ c.self.inside.places.now _ c.at-at.result.now c.self.invariant.below c.at-at.ensures

pub at-action-requires : goal.at-action-requires
at-action-requires c =
    let s = c.self.inside in
    rw c.actions-actions.ensures.actions
    (action-there s.names s.version s.obligations.now.items s.places.now s.draft.graph c.args.place c.at-at.result.now c.at-obligation.result.now
    c.at-at.ensures c.at-obligation.ensures c.self.invariant
    (subst (λ (u : Underway). IsTurn u.occasion u.draft.graph c.args.place) (sym c.self.view_is) c.requires))

pub act_by-done-requires : goal.act_by-done-requires
act_by-done-requires c =
    let s = c.self.inside in
    author-is-user s.names s.version s.obligations.now.items s.places.now s.draft.graph c.args.place c.at-at.result.now c.at-obligation.result.now
    c.at-at.ensures c.at-obligation.ensures c.self.invariant (subst IsWellFormed c.graph.ensures c.formed.ensures)

pub invariant_of-self : goal.invariant_of-self
invariant_of-self c =
    let s = c.self.inside in
    let obligations = s.obligations.now.items in
    let asked = rw c.actions-actions.ensures.actions at c.at-action.ensures in
    let done = acted-is s.names s.version obligations s.places.now s.draft.graph c.args.place c.at-at.result.now c.at-obligation.result.now
    c.at-at.ensures c.at-obligation.ensures c.at-action.result.now c.self.invariant asked in
    responders-stay-either s.names s.version obligations s.places.now s.draft.graph c.args.place c.act_by-done.result c.act_by-done.new.draft.graph
    (rw done c.act_by-done.ensures.ok) (rw done c.act_by-done.ensures.err) c.self.invariant
    (subst (λ (u : Underway). IsTurn u.occasion u.draft.graph c.args.place) (sym c.self.view_is) c.requires)

pub returns-clause-ok : goal.returns-clause-ok
returns-clause-ok c =
    let s = c.self.inside in
    let asked = rw c.actions-actions.ensures.actions at c.at-action.ensures in
    let done = acted-is s.names s.version s.obligations.now.items s.places.now s.draft.graph c.args.place c.at-at.result.now c.at-obligation.result.now
    c.at-at.ensures c.at-obligation.ensures c.at-action.result.now c.self.invariant asked in
    rw (← c.self.view_is, done) c.act_by-done.ensures.ok

pub returns-clause-refused : goal.returns-clause-refused
returns-clause-refused c =
    let s = c.self.inside in
    let asked = rw c.actions-actions.ensures.actions at c.at-action.ensures in
    let done = acted-is s.names s.version s.obligations.now.items s.places.now s.draft.graph c.args.place c.at-at.result.now c.at-obligation.result.now
    c.at-at.ensures c.at-obligation.ensures c.at-action.result.now c.self.invariant asked in
    rw (← c.self.view_is, done) c.act_by-done.ensures.refused

pub returns-clause-done : goal.returns-clause-done
returns-clause-done c w =
    let s = c.self.inside in
    let asked = rw c.actions-actions.ensures.actions at c.at-action.ensures in
    let counted = acted-counted s.names s.version s.obligations.now.items s.places.now s.draft.graph c.args.place c.at-at.result.now c.at-obligation.result.now
    c.at-at.ensures c.at-obligation.ensures w c.at-action.result.now c.self.invariant asked in
    rw (← c.self.view_is, counted) (c.act_by-done.ensures.done w)

pub returns-clause-err : goal.returns-clause-err
returns-clause-err c =
    let s = c.self.inside in
    let asked = rw c.actions-actions.ensures.actions at c.at-action.ensures in
    let done = acted-is s.names s.version s.obligations.now.items s.places.now s.draft.graph c.args.place c.at-at.result.now c.at-obligation.result.now
    c.at-at.ensures c.at-obligation.ensures c.at-action.result.now c.self.invariant asked in
    rw (← c.self.view_is, done) c.act_by-done.ensures.err
