use Rattle.std.proofs.Common.{◌≡◌, ◌+◌, ◌∷◌, ◌++◌, [], length, None, Some, refl, sym, ◌∙◌, ap, subst, arith}
use Rattle.pm_model.specs.Answer.{entered, proposed}
use Rattle.pm_model.specs.History.{IsAnswered, Machine, state_of}
use Rattle.pm_model.specs.State.{Graph, State}
use Rattle.pm_laws.proofs.Replayed.{answered-by, grown}
use Rattle.pm_affect.specs.Counting.{Work, Judged, Written, capped, rows_for, work_by, work_for, work_in}
use Rattle.pm_affect.proofs.Counting.{grown-none, rows-made, work-on}
use Rattle.pm_state.specs.KeptState.{machine_of}
use Rattle.pm_state.specs.Leaving.{LeavesReviews}
use Rattle.pm_state.proofs.Charged.{rows-counted}
use Rattle.pm_state.proofs.state.State.enter.Goals as goal

pub invariant_of-self-in-Ok-change : goal.invariant_of-self-in-Ok-change
invariant_of-self-in-Ok-change c =
    let M = machine_of c.self.inside in
    let H = c.change.new.self in
    let made : Machine = record { graph = H; history = M.history } in
    let request = c.args.entry.request in
    let change = c.args.change.now in
    let kept = c.self.invariant in
    let room = c.in-Ok.ensures.room in
    let limit = kept.limit in
    let asked : proposed (state_of M) request ≡ entered (state_of M) None change =
    subst (λ (N : Machine). proposed (state_of N) request ≡ entered (state_of N) None change) (sym c.self.view_is) c.requires.asked in
    let leaves : LeavesReviews M.graph change = subst (λ (N : Machine). LeavesReviews N.graph change) (sym c.self.view_is) c.requires.leaves in
    let work : (w : Work) → work_by w (state_of M) request ≡ work_for w M.graph change = λ w.
    subst (λ (N : Machine). work_by w (state_of N) request ≡ work_for w N.graph change) (sym c.self.view_is) (c.requires.work w) in
    let answered : IsAnswered made request =
    answered-by M request None change H kept.replayed asked refl c.in-Ok-change.ensures.ok
    ∙ ap (λ (K : Graph). let s : State = record { graph = K; version = length M.history + 1 } in Some s)
    (leaves.settled H c.in-Ok-change.ensures.ok (length M.history + 1)) in
    rw c.in-Ok.ensures.ok (record {
      replayed = grown made c.args.entry kept.replayed.legal answered (omega (arith, room, limit));
      limit = limit;
      listed = λ of. kept.listed of ∙ sym (leaves.lists H c.in-Ok-change.ensures.ok of);
      asked = kept.asked ∙ ap capped (sym (grown-none Judged M c.args.entry kept.replayed (work Judged ∙ leaves.judged)));
      written =
          rows-counted c.self.inside.rows c.in-Ok-change.done.rows c.saturating_add-self-inside.result (work_in Written M.history)
          (work_by Written (state_of M) request) (work_in Written (M.history ++ c.args.entry ∷ [])) (rows_for M.graph change) kept.written
          (c.in-Ok-change.ensures.rows ∙ sym (rows-made M.graph H change c.in-Ok-change.ensures.ok)) (work Written)
          (work-on Written M c.args.entry kept.replayed) c.saturating_add-self-inside.ensures;
    })
