-- How much work an entry is, from a request that comes to a change or an access.
use Rattle.std.proofs.Common.{◌≡◌, ◌+◌, ◌∷◌, ◌++◌, ℕ, true, false, List, [], Option, Some, None, Result, Ok, Err, IfOk, OnOk, refl, sym, ◌∙◌, ap, arith}
use Rattle.std.proofs.lemmas.List.{append-nil}
use Rattle.pm_model.specs.State.{State, Graph}
use Rattle.pm_model.specs.Answer.{acting, answer, is_ahead}
use Rattle.pm_model.specs.Authority.{ruling}
use Rattle.pm_model.specs.Effect.{effect}
use Rattle.pm_model.specs.Events.{obliging, raised, responders}
use Rattle.pm_model.specs.History.{IsReplayed, Machine, state_of}
use Rattle.pm_model.specs.Recorded.{entries_of}
use Rattle.pm_model.specs.declared.events.Event.{Event}
use Rattle.pm_model.specs.declared.memory.Memory.{Memory}
use Rattle.pm_model.specs.declared.obligations.Obligation.{Obligation}
use Rattle.pm_model.specs.declared.replies.Refusal.{Refusal}
use Rattle.pm_model.specs.declared.replies.Reply.{Reply}
use Rattle.pm_model.specs.declared.requests.Body.TheVariants.{Admin}
use Rattle.pm_model.specs.declared.requests.Change.{Change}
use Rattle.pm_model.specs.declared.requests.Command.{Command}
use Rattle.pm_model.specs.declared.requests.Entry.{Entry}
use Rattle.pm_model.specs.declared.requests.Request.{Request}
use Rattle.pm_affect.specs.Changes.{changes_entered}
use Rattle.pm_affect.specs.Counting.{Work, Judged, Written, capped, count_on, work_by, work_entered, work_for, work_granted, work_in, work_responded}
use Rattle.pm_affect.proofs.Counting.{count-none, entered-more, work-on, work_alone, over-both}
use Rattle.pm_machine.specs.Answered.{HasAnswered}
use Rattle.pm_machine.specs.declared.versions.Stepped.{Stepped}
use Rattle.pm_machine.specs.declared.versions.Stepped.TheVariants.{Accepted, Answered}
use Rattle.pm_runner.specs.Standing.{StandAt, without}
use Rattle.pm_state.specs.Drafted.{Drafted, done_in}
use Rattle.pm_step.specs.Counted.{HasCounted, HasCountedFrom, if_next}
use Rattle.pm_step.specs.Responders.{items_at, withdrawn}
use Rattle.pm_step.specs.Steps.{IsStepFrom}
use Rattle.pm_step.proofs.Placed.{items-at-is, obliging-is}

-- a change in a draft of the state, to which nothing responds
pub alone-counted : (before asked more all : ℕ) → asked ≡ capped (capped before + more) → all ≡ more → capped asked ≡ capped (before + all)
alone-counted before asked more all is same = omega (arith, is, same)

-- how much work the draft of a state begins with
pub begun-counted : (M : Machine) (w : Work) →
    done_in (record { graph = M.graph; history = M.history; asked = capped (work_in Judged M.history); written = capped (work_in Written M.history); whole = true }) w
    ≡ capped (work_in w M.history)
begun-counted M Judged = refl
begun-counted M Written = refl

module _ (w : Work) where
  -- a command, by which the state isn't ahead
  pub work-admin : (S : State) (request : Request) (q : ℕ) (command : Command) → is_ahead request.after S.version ≡ false → request.body ≡ Admin q command →
      work_by w S request ≡ count_on (acting S.graph q) (λ u. count_on (ruling S.graph u (Some q) command) (λ c. work_entered w S (raised S.graph u q c) c))
  work-admin S request q command ahead is =
      rw (ahead, is)
      (over-both w (acting S.graph q) (λ u. ruling S.graph u (Some q) command) (λ u c. changes_entered S (raised S.graph u q c) c))

  -- where none responds, the work of the change
  pub work-unanswered : (S : State) (e : Option Event) (c : Change) → responders S.graph (obliging S.graph c) e ≡ [] →
      work_entered w S e c ≡ work_for w S.graph c
  work-unanswered S None c none = work_alone w S c
  work-unanswered S (Some e) c none =
      let nothing = count-none (effect S.graph c) in
      let alone : work_for w S.graph c + count_on (effect S.graph c) (λ G. 0) ≡ work_for w S.graph c = omega (arith, nothing) in
      entered-more w S (Some e) c
      ∙ ap (λ (os : List Obligation). work_for w S.graph c + count_on (effect S.graph c) (λ G. work_responded w S (Some e) os G)) none ∙ alone

  module _ (S : State) (e : Event) (H : Graph) (places : List ℕ) where
    abbrev G : Graph
    G = S.graph

    abbrev these : List Obligation
    these = items_at G.obligations places

    -- one to which these respond
    pub change-counted : (c : Change) (before asked all : ℕ) → effect G c ≡ Ok H →
        StandAt G.obligations places (responders G (without (withdrawn c) G.obligations) (Some e)) →
        asked ≡ capped (capped before + work_for w G c) → all ≡ work_entered w S (Some e) c →
        capped (asked + work_responded w S (Some e) these H) ≡ capped (before + all)
    change-counted c before asked all done stand is whole =
        let sum : work_entered w S (Some e) c ≡ work_for w G c + work_responded w S (Some e) these H =
        entered-more w S (Some e) c
        ∙ ap (λ (r : Result Graph Refusal). work_for w G c + count_on r (λ K. work_responded w S (Some e) (responders G (obliging G c) (Some e)) K)) done
        ∙ ap (λ (os : List Obligation). work_for w G c + work_responded w S (Some e) (responders G os (Some e)) H) (obliging-is G c)
        ∙ ap (λ (os : List Obligation). work_for w G c + work_responded w S (Some e) os H)
        (sym (items-at-is G.obligations (responders G (without (withdrawn c) G.obligations) (Some e)) places stand)) in
        omega (arith, sum, is, whole)

  -- an access to which these respond
  pub access-counted : (S : State) (e : Event) (places : List ℕ) (before asked all : ℕ) →
      StandAt S.graph.obligations places (responders S.graph S.graph.obligations (Some e)) →
      asked ≡ capped before → all ≡ work_granted w S e →
      capped (asked + work_responded w S (Some e) (items_at S.graph.obligations places) S.graph) ≡ capped (before + all)
  access-counted S e places before asked all stand is whole =
      let same : work_granted w S e ≡ work_responded w S (Some e) (items_at S.graph.obligations places) S.graph =
      ap (λ (os : List Obligation). work_responded w S (Some e) os S.graph)
      (sym (items-at-is S.graph.obligations (responders S.graph S.graph.obligations (Some e)) places stand)) in
      omega (arith, same, is, whole)

  -- once its kept reviews are settled
  pub settled-counted : (M : Machine) (D draft : Drafted) (e : Entry) → IsReplayed M → done_in D w ≡ done_in draft w → D.history ≡ M.history →
      capped (done_in draft w) ≡ capped (work_in w M.history + work_by w (state_of M) e.request) →
      capped (done_in D w) ≡ capped (work_in w (D.history ++ e ∷ []))
  settled-counted M D draft e replayed same history is =
      ap capped same ∙ is ∙ ap capped (sym (work-on w M e replayed))
      ∙ ap (λ (entries : List Entry). capped (work_in w (entries ++ e ∷ []))) (sym history)

-- what is done by one command
pub if-done : {A E : Type 0} (r : Result A E) (new old more all : ℕ) → more ≡ all → OnOk r (new ≡ capped (old + more)) → OnOk r (capped new ≡ capped (old + all))
if-done (Ok a) new old more all same is = omega (arith, is, same)
if-done (Err why) new old more all same is = tt

-- ---- an answer

entries-counted : (w : Work) (M : Machine) (entry : Entry) (next : Option State) → IsReplayed M →
    work_in w (M.history ++ entries_of next entry) ≡ work_in w M.history + if_next next (work_by w (state_of M) entry.request)
entries-counted w M entry (Some next) replayed = work-on w M entry replayed
entries-counted w M entry None replayed = rw (append-nil M.history) (omega arith)

pub answer_counted : (old new : Machine) (entry : Entry) (told : Reply) → IsReplayed old → HasAnswered old new entry told → HasCounted old new entry.request
answer_counted old new entry told replayed h w =
    ap (work_in w) h.history ∙ entries-counted w old entry (answer (state_of old) entry.request).next replayed

pub step_counted : (old : Machine) (entry : Entry) (stepped : Stepped Machine) → IsReplayed old → IsStepFrom old entry stepped → HasCountedFrom old entry.request stepped
step_counted old entry (Accepted new told) replayed h = λ w. ap (work_in w) h.1 ∙ work-on w old entry replayed
step_counted old entry (Answered told) replayed h = tt

pub if-counted : (old new : Machine) (entry : Entry) (result : Result Reply Memory) → IsReplayed old → IfOk result (HasAnswered old new entry) →
    OnOk result (HasCounted old new entry.request)
if-counted old new entry (Ok told) replayed h = answer_counted old new entry told replayed h
if-counted old new entry (Err why) replayed h = tt
