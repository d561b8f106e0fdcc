use Rattle.std.proofs.Common.{◌≡◌, ◌∷◌, ◌++◌, [], sym, ap, ◌∙◌, subst, arith}
use Rattle.pm_model.specs.History.{IsAnswered}
use Rattle.pm_laws.proofs.Replayed.{grown}
use Rattle.pm_affect.specs.Counting.{Judged, Written, capped, work_in}
use Rattle.pm_affect.proofs.Counting.{capped-small}
use Rattle.pm_state.specs.Drafted.{Drafted, asked_of, machine_in}
use Rattle.pm_state.specs.KeptDraft.{drafted_of}
use Rattle.pm_state.proofs.draft.Draft.finish.Goals as goal

pub joined-requires-clause-replayed : goal.joined-requires-clause-replayed
joined-requires-clause-replayed c =
    let d = machine_in (drafted_of c.self.inside) in
    let room = c.in-Ok.ensures.room in
    let limit = c.self.invariant.limit in
    let answered : IsAnswered d c.args.entry.request =
    subst (λ (D : Drafted). IsAnswered (machine_in D) c.args.entry.request) (sym c.self.view_is) c.requires.answered in
    rw c.in-Ok.ensures.ok (grown d c.args.entry c.self.invariant.legal answered (omega (arith, room, limit)))

pub joined-requires-clause-asked : goal.joined-requires-clause-asked
joined-requires-clause-asked c =
    let d = c.self.inside in
    let asked : capped (asked_of d.lists) ≡ capped (work_in Judged (d.history.entries ++ c.args.entry ∷ [])) =
    subst (λ (D : Drafted). capped D.asked ≡ capped (work_in Judged (D.history ++ c.args.entry ∷ []))) (sym c.self.view_is) (c.requires.done Judged) in
    rw c.in-Ok.ensures.ok
    (sym (capped-small _ c.kept.ensures.few) ∙ sym (ap (λ (o : _). capped (asked_of o)) c.in-Some.is) ∙ asked)

pub joined-requires-clause-written : goal.joined-requires-clause-written
joined-requires-clause-written c =
    let d = c.self.inside in
    let written : capped d.rows ≡ capped (work_in Written (d.history.entries ++ c.args.entry ∷ [])) =
    subst (λ (D : Drafted). capped D.written ≡ capped (work_in Written (D.history ++ c.args.entry ∷ []))) (sym c.self.view_is) (c.requires.done Written) in
    rw c.in-Ok.ensures.ok (sym (capped-small _ c.self.invariant.few) ∙ written)
