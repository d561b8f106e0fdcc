-- No number of a session or of a process is told twice: a reply that tells one tells the next, which rises above it.
use Rattle.std.proofs.Common.{◌≡◌, ◌≤◌, ◌<◌, ◌+◌, zero, suc, ℕ, List, [], ◌∷◌, length, take, slice_get, Option, Some, None, Result, Ok, Err, refl, sym, subst, arith}
use Rattle.std.proofs.lemmas.Option.{same_Some}
use Rattle.pm_model.specs.KeptReviews.{KeptReview, kept_at}
use Rattle.pm_model.specs.LastChanges.{with_changes}
use Rattle.pm_model.specs.Reviews.{last_change, reviewed}
use Rattle.pm_model.specs.declared.requests.Review.{Review}
use Rattle.pm_model.specs.declared.requests.Review.TheVariants.{Caps, Entries, Survey, Kept, Changes}
use Rattle.pm_model.specs.State.{State, Graph, opening}
use Rattle.pm_model.specs.Effect.{effect, changed, refusal}
use Rattle.pm_model.specs.Made.{made_by, shown_of}
use Rattle.pm_model.specs.Answer.{Answer, told, responded, settled, made, granted_with, answer, after}
use Rattle.pm_model.specs.Events.{obliging, responders}
use Rattle.pm_model.specs.Responses.{Stopped}
use Rattle.pm_model.specs.History.{replay_from}
use Rattle.pm_model.specs.declared.events.Event.{Event}
use Rattle.pm_model.specs.declared.obligations.Obligation.{Obligation}
use Rattle.pm_model.specs.declared.requests.Change.{Change}
use Rattle.pm_model.specs.declared.requests.Change.TheVariants.{Create, Delete, Assign, Deassign, Associate, Dissociate, OpenSession, CloseSession, StartProcess, EndProcess, Prohibit, Lift, Oblige, Withdraw, DefineRight, Keep, DropReview}
use Rattle.pm_model.specs.declared.requests.Entry.{Entry}
use Rattle.pm_model.specs.declared.requests.Request.{Request}
use Rattle.pm_model.specs.declared.replies.Refusal.{Refusal}
use Rattle.pm_model.specs.declared.replies.Refusal.TheVariants.{Full}
use Rattle.pm_model.specs.declared.replies.Table.TheVariants.{History}
use Rattle.pm_model.specs.declared.replies.Reply.{Reply}
use Rattle.pm_model.specs.declared.replies.Reply.TheVariants.{Done, Granted, Refused}
use Rattle.pm_model.specs.declared.replies.Shown.{Shown}
use Rattle.pm_model.specs.declared.replies.Shown.TheVariants as shown
use Rattle.pm_laws.specs.Meaning.{TellsOnce}
use Rattle.pm_laws.proofs.Checks.{unless-ok}
use Rattle.pm_laws.proofs.Accepted.{IsNext, accepted-next}
use Rattle.pm_laws.proofs.Responding.{AreLeft, responded-left}
use Rattle.pm_laws.proofs.Bodies.{answer-is, body-is}

-- ---- what a change's reply tells

session-shown : (G : Graph) (c : Change) (n : ℕ) → shown_of (made_by G c) ≡ shown.Session n →
    (n ≡ G.procs.next_session) × (n < (changed G c).procs.next_session)
session-shown G (OpenSession u) n h = let same : G.procs.next_session ≡ n = cc in (sym same, omega (arith, same))
session-shown G (StartProcess s) n h = absurd (cc)
session-shown G (Create id kind name into) n h = absurd (cc)
session-shown G (Delete id) n h = absurd (cc)
session-shown G (Assign x y) n h = absurd (cc)
session-shown G (Deassign x y) n h = absurd (cc)
session-shown G (Associate u r t) n h = absurd (cc)
session-shown G (Dissociate u t) n h = absurd (cc)
session-shown G (CloseSession s) n h = absurd (cc)
session-shown G (EndProcess p) n h = absurd (cc)
session-shown G (Prohibit p) n h = absurd (cc)
session-shown G (Lift i) n h = absurd (cc)
session-shown G (Oblige o) n h = absurd (cc)
session-shown G (Withdraw i) n h = absurd (cc)
session-shown G (DefineRight name) n h = absurd (cc)
session-shown G (Keep of) n h = absurd (cc)
session-shown G (DropReview r) n h = absurd (cc)

process-shown : (G : Graph) (c : Change) (n : ℕ) → shown_of (made_by G c) ≡ shown.Process n →
    (n ≡ G.procs.next_process) × (n < (changed G c).procs.next_process)
process-shown G (StartProcess s) n h = let same : G.procs.next_process ≡ n = cc in (sym same, omega (arith, same))
process-shown G (OpenSession u) n h = absurd (cc)
process-shown G (Create id kind name into) n h = absurd (cc)
process-shown G (Delete id) n h = absurd (cc)
process-shown G (Assign x y) n h = absurd (cc)
process-shown G (Deassign x y) n h = absurd (cc)
process-shown G (Associate u r t) n h = absurd (cc)
process-shown G (Dissociate u t) n h = absurd (cc)
process-shown G (CloseSession s) n h = absurd (cc)
process-shown G (EndProcess p) n h = absurd (cc)
process-shown G (Prohibit p) n h = absurd (cc)
process-shown G (Lift i) n h = absurd (cc)
process-shown G (Oblige o) n h = absurd (cc)
process-shown G (Withdraw i) n h = absurd (cc)
process-shown G (DefineRight name) n h = absurd (cc)
process-shown G (Keep of) n h = absurd (cc)
process-shown G (DropReview r) n h = absurd (cc)

-- ---- numbers of one sort, by what a reply tells them and by the next one

module _ (tells : ℕ → Shown) (next : Graph → ℕ) (apart : (n : ℕ) → shown.Nothing ≡ tells n → ⊥)
    (given : (G : Graph) (c : Change) (n : ℕ) → shown_of (made_by G c) ≡ tells n → (n ≡ next G) × (n < next (changed G c)))
    (rises : (S T : State) → IsNext S T → next S.graph ≤ next T.graph) (left : (F G H : Graph) (version : ℕ) → AreLeft G H → next (with_changes F version H) ≡ next G) where
  -- an answer that tells a number tells the next, and is past it then
  abbrev TellsNext : State → Answer → Type 0
  TellsNext S a = (fired n : ℕ) → a.reply ≡ Done fired (tells n) → (n ≡ next S.graph) × (n < next (after S a).graph)

  refused-next : (S : State) (why : Refusal) → TellsNext S (told (Refused why))
  refused-next S why fired n is = absurd (cc)

  settled-next : (S : State) (c : Change) (G : Graph) (fired : ℕ) (r : Result Graph Stopped) → effect S.graph c ≡ Ok G →
      ((H : Graph) → r ≡ Ok H → AreLeft G H) → TellsNext S (settled S (Done fired (shown_of (made_by S.graph c))) r)
  settled-next S c G fired (Ok H) is kept many n h =
      let same : shown_of (made_by S.graph c) ≡ tells n = cc in
      let g = given S.graph c n same in
      let p = unless-ok (refusal S.graph c) (changed S.graph c) G is in
      (g.0, rw (left S.graph G H (S.version + 1) (kept H refl)) (subst (λ (K : Graph). n < next K) p.1 g.1))
  settled-next S c G fired (Err stop) is kept many n h = absurd (cc)

  made-next : (S : State) (c : Change) (fired : ℕ) (e : Option Event) (obligations : List Obligation) (r : Result Graph Refusal) →
      effect S.graph c ≡ r → TellsNext S (made S (Done fired (shown_of (made_by S.graph c))) e obligations r)
  made-next S c fired e obligations (Ok G) is =
      settled-next S c G fired (responded S e obligations G) is (λ H done. responded-left S obligations G H e done)
  made-next S c fired e obligations (Err why) is = refused-next S why

  -- an access tells none
  granted-next : (S : State) (e : Event) (obligations : List Obligation) → TellsNext S (granted_with S e obligations)
  granted-next S e [] = λ many n is. absurd (cc)
  granted-next S e (o ∷ os) = of (responded S (Some e) (o ∷ os) S.graph) where
    of : (r : Result Graph Stopped) → TellsNext S (settled S (Granted (length (o ∷ os))) r)
    of (Ok H) many n is = absurd (cc)
    of (Err stop) many n is = absurd (cc)

  -- a review tells none
  reviewed-next : (S : State) (review : Review) → TellsNext S (told (reviewed S.graph review))
  reviewed-next S (Caps u) fired n is = absurd (cc)
  reviewed-next S (Entries e) fired n is = absurd (cc)
  reviewed-next S (Survey us) fired n is = absurd (cc)
  reviewed-next S (Kept of) fired n is = absurd (cc)
  reviewed-next S (Changes m of) fired n is = by (kept_at S.graph.kept m) fired n is where
    by : (o : Option KeptReview) → TellsNext S (told (last_change o))
    by None fired n is = absurd (cc)
    by (Some k) fired n is = absurd (cc)

  answer-next : (S : State) (r : Request) → TellsNext S (answer S r)
  answer-next S r =
      answer-is (TellsNext S) S r (refused-next S (Full History)) (λ fired n is. absurd (cc))
      (body-is (TellsNext S) S r.body (λ fired n is. let same : shown.Nothing ≡ tells n = cc in absurd (apart n same)) (refused-next S)
      (λ e c. made-next S c _ e (responders S.graph (obliging S.graph c) e) (effect S.graph c) refl)
      (λ e. granted-next S e (responders S.graph S.graph.obligations (Some e))) (reviewed-next S))

  -- ---- over a history

  after-rises : (S : State) (r : Request) → next S.graph ≤ next (after S (answer S r)).graph
  after-rises S r = of (answer S r).next refl where
    of : (o : Option State) → (answer S r).next ≡ o → next S.graph ≤ next (after S (answer S r)).graph
    of None is = rw is (omega arith)
    of (Some T) is = rw is (rises S T (accepted-next S r T is))

  replay-rises : (S : State) (H : List Entry) (j : ℕ) → next S.graph ≤ next (replay_from S (take j H)).graph
  replay-rises S [] zero = omega arith
  replay-rises S [] (suc j) = omega arith
  replay-rises S (e ∷ H) zero = omega arith
  replay-rises S (e ∷ H) (suc j) =
      let one = after-rises S e.request in
      let rest = replay-rises (after S (answer S e.request)) H j in omega (arith, one, rest)

  abbrev IsRepliedFrom : State → List Entry → ℕ → Reply → Type 0
  IsRepliedFrom S H i reply = (e : Entry) × (slice_get H i ≡ Some e) × ((answer (replay_from S (take i H)) e.request).reply ≡ reply)

  pub rise-from : (S : State) (H : List Entry) (i j a b m n : ℕ) → i < j → IsRepliedFrom S H i (Done a (tells m)) →
      IsRepliedFrom S H j (Done b (tells n)) → m < n
  rise-from S [] i j a b m n before first second = absurd (let no : None ≡ Some first.0 = first.1 in cc)
  rise-from S (e ∷ H) zero zero a b m n before first second = absurd (omega (arith, before))
  rise-from S (e ∷ H) zero (suc j) a b m n before first second =
      let T = after S (answer S e.request) in
      let same : e ≡ first.0 = same_Some e first.0 first.1 in
      let early = answer-next S e.request a m (rw (← same) at first.2) in
      let more = replay-rises T H j in
      let late = answer-next (replay_from T (take j H)) second.0.request b n second.2 in
      let past = early.1 in
      let number = late.0 in
      omega (arith, past, more, number)
  rise-from S (e ∷ H) (suc i) zero a b m n before first second = absurd (omega (arith, before))
  rise-from S (e ∷ H) (suc i) (suc j) a b m n before first second =
      rise-from (after S (answer S e.request)) H i j a b m n (omega (arith, before)) first second

pub tells_once : (H : List Entry) → TellsOnce H
tells_once H = record {
  sessions = rise-from shown.Session (λ (G : Graph). G.procs.next_session) (λ n is. cc) session-shown
      (λ S T step. step.given.0.0) (λ F G K version left. left.1) opening H;
  processes = rise-from shown.Process (λ (G : Graph). G.procs.next_process) (λ n is. cc) process-shown
      (λ S T step. step.given.1.0) (λ F G K version left. left.2) opening H;
}
