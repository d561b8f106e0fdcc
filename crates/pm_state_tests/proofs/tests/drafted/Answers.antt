use Rattle.std.proofs.Common.{◌≡◌, ℕ, ◌+◌, ◌∷◌, ◌++◌, [], List, None, true, Ok, refl, ap, sym, subst, arith}
use Rattle.std.specs.Result.{IfOk}
use Rattle.pm_model.specs.Effect.{effect}
use Rattle.pm_model.specs.History.{Machine, IsAnswered, IsReplayed, state_of}
use Rattle.pm_model.specs.declared.requests.Body.{Body}
use Rattle.pm_model.specs.declared.requests.Change.{Change}
use Rattle.pm_model.specs.declared.requests.Entry.{Entry}
use Rattle.pm_laws.proofs.Replayed.{answered-plainly}
use Rattle.pm_affect.specs.Counting.{Work, Judged, Written, capped, work_for, work_in}
use Rattle.pm_affect.proofs.Counting.{work-on, work_alone}
use Rattle.pm_state.specs.Drafted.{Drafted, done_in, machine_in}
use Rattle.pm_state_tests.proofs.tests.drafted.Goals as goal

-- the state as a draft
abbrev drafted_from : Machine → Drafted
drafted_from M = record { graph = M.graph; history = M.history; asked = capped (work_in Judged M.history); written = capped (work_in Written M.history); whole = true }

-- a process that starts where no review is kept is what the machine answers to its entry
started-plainly : (M D : Machine) → IsReplayed M → M.graph.kept ≡ [] → D.history ≡ M.history → effect M.graph (Change.StartProcess 0) ≡ Ok D.graph →
    IsAnswered D (record { after = None; body = Body.StartProcess 0 })
started-plainly M D replayed unkept history made =
    let answered = answered-plainly M (record { after = None; body = Body.StartProcess 0 }) None (Change.StartProcess 0) D.graph replayed unkept refl refl made in
    subst (λ h. IsAnswered (record { graph = D.graph; history = h }) (record { after = None; body = Body.StartProcess 0 })) (sym history) answered

-- how much work it begins with
begun : (M : Machine) (w : Work) → done_in (drafted_from M) w ≡ capped (work_in w M.history)
begun M Judged = refl
begun M Written = refl

-- and the work of the change is counted
started-counted : (w : Work) (M : Machine) (D : Drafted) (seat nth : ℕ) → IsReplayed M → D.history ≡ M.history →
    done_in D w ≡ capped (capped (work_in w M.history) + work_for w M.graph (Change.StartProcess 0)) →
    capped (done_in D w)
    ≡ capped (work_in w (D.history ++ record { seat = seat; nth = nth; request = record { after = None; body = Body.StartProcess 0 } } ∷ []))
started-counted w M D seat nth replayed history is =
    let e : Entry = record { seat = seat; nth = nth; request = record { after = None; body = Body.StartProcess 0 } } in
    let on = work-on w M e replayed in
    let alone = work_alone w (state_of M) (Change.StartProcess 0) in
    let longer : work_in w (D.history ++ e ∷ []) ≡ work_in w (M.history ++ e ∷ []) = ap (λ (h : List Entry). work_in w (h ++ e ∷ [])) history in
    omega (arith, is, on, alone, longer)

pub finish-requires-clause-answered : goal.finish-requires-clause-answered
finish-requires-clause-answered g c =
    let M = c.args.state.now in
    let same : c.expect-draft.result ≡ drafted_from M = subst (λ r. IfOk r (λ d. d ≡ drafted_from M)) c.expect-draft.ensures c.draft.ensures in
    rw (c.start_by.ensures) (started-plainly M (machine_in c.start_drafted.new.draft) c.replayed.ensures (rw (← c.graph.ensures) c.unkept.ensures)
    (rw same at c.start_drafted.ensures.history) (rw same at c.start_drafted.ensures.graph))

pub finish-requires-clause-done : goal.finish-requires-clause-done
finish-requires-clause-done g c w =
    let M = c.args.state.now in
    let same : c.expect-draft.result ≡ drafted_from M = subst (λ r. IfOk r (λ d. d ≡ drafted_from M)) c.expect-draft.ensures c.draft.ensures in
    rw (c.start_by.ensures) (started-counted w M c.start_drafted.new.draft 4 1 c.replayed.ensures
    (rw same at c.start_drafted.ensures.history) (rw (begun M w) at (rw same at (c.start_drafted.ensures.done w))))
