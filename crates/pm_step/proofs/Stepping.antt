-- From a request that comes to a change to the machine's answer.
use Rattle.std.proofs.Common.{List, subst, ◌≡◌, ℕ, ◌+◌, ◌<◌, ◌≤◌, nat_le, Bool, true, false, ◌++◌, ◌∷◌, [], length, Option, Some, None, Ok, refl, sym, ◌∙◌, ap, arith}
use Rattle.std.proofs.lemmas.Bool.{le-leb}
use Rattle.std.proofs.lemmas.Option.{same_Some}
use Rattle.std.proofs.lemmas.List.{append-nil, length-append}
use Rattle.pm_model.specs.State.{State, Graph}
use Rattle.pm_model.specs.Effect.{refusal, changed, effect}
use Rattle.pm_model.specs.Made.{made_by, shown_of}
use Rattle.pm_model.specs.LastChanges.{with_changes}
use Rattle.pm_model.specs.Answer.{Answer, told, entered, proposed, longest_history, limited, answer, after, refusal_in}
use Rattle.pm_model.specs.History.{Machine, state_of, IsAnswered, IsReplayed}
use Rattle.pm_model.specs.Recorded.{entries_of}
use Rattle.pm_model.specs.declared.requests.Request.{Request}
use Rattle.pm_model.specs.declared.requests.Entry.{Entry}
use Rattle.pm_model.specs.declared.requests.Change.{Change}
use Rattle.pm_model.specs.declared.replies.Refusal.{Refusal}
use Rattle.pm_model.specs.declared.replies.Refusal.TheVariants.{Full}
use Rattle.pm_model.specs.declared.replies.Table.TheVariants.{History}
use Rattle.pm_model.specs.declared.replies.Reply.{Reply}
use Rattle.pm_model.specs.declared.replies.Reply.TheVariants.{Done, Refused}
use Rattle.pm_laws.proofs.Replayed.{bounded}
use Rattle.pm_machine.specs.Answered.{HasAnswered}
use Rattle.pm_step.specs.Steps.{IsStepFrom}
use Rattle.pm_step.specs.Settling.{reviews_settled}
use Rattle.pm_machine.specs.declared.versions.Stepped.TheVariants.{Accepted, Answered}

-- what an accepted change is answered by
abbrev given : State → Change → Graph → Answer
given S c H = record {
  reply = Done 0 (shown_of (made_by S.graph c));
  next = Some (record { graph = with_changes S.graph (S.version + 1) H; version = S.version + 1 });
}

-- where the history is full, what would be accepted is refused
full-is : (S : State) (r : Request) (c : Change) (H : Graph) → proposed S r ≡ given S c H → nat_le longest_history S.version ≡ true →
    answer S r ≡ told (Refused (Full History))
full-is S r c H proposal full = rw (proposal, full) refl

-- what the change makes is answered so
pub entered-is : (S : State) (r : Request) (c : Change) (H : Graph) → proposed S r ≡ entered S None c → effect S.graph c ≡ Ok H →
    proposed S r ≡ given S c H
entered-is S r c H proposal made = proposal ∙ rw made refl

pub refused-is : (S : State) (r : Request) (c : Change) (why : Refusal) → proposed S r ≡ entered S None c → refusal_in S c ≡ Some why →
    answer S r ≡ told (Refused why)
refused-is S r c why proposal = of (refusal S.graph c) (nat_le longest_history S.version) refl refl where
  of : (o : Option Refusal) (full : Bool) → refusal S.graph c ≡ o → nat_le longest_history S.version ≡ full → refusal_in S c ≡ Some why →
      answer S r ≡ told (Refused why)
  of (Some w) full is limit h =
      let unmet : proposed S r ≡ told (Refused w) = proposal ∙ rw is refl in
      let same : w ≡ why = same_Some w why (rw is at h) in
      ap (limited S) unmet ∙ ap (λ (v : Refusal). told (Refused v)) same
  of None true is limit h =
      let met : proposed S r ≡ given S c (changed S.graph c) = proposal ∙ rw is refl in
      let same : Full History ≡ why = same_Some (Full History) why (rw (is, limit) at h) in
      full-is S r c (changed S.graph c) met limit ∙ ap (λ (v : Refusal). told (Refused v)) same
  of None false is limit h = absurd (let none : None ≡ Some why = rw (is, limit) at h in cc)

-- refused, and all as before
pub refused-answered : (M N : Machine) (e : Entry) (c : Change) (why : Refusal) → proposed (state_of M) e.request ≡ entered (state_of M) None c →
    refusal_in (state_of M) c ≡ Some why → N ≡ M → HasAnswered M N e (Refused why)
refused-answered M N e c why proposal is same =
    let S = state_of M in
    let refused = refused-is S e.request c why proposal is in
    record {
      reply = sym (ap (λ (a : Answer). a.reply) refused);
      state = ap state_of same ∙ sym (ap (after S) refused);
      history =
          ap (λ (m : Machine). m.history) same
          ∙ sym (append-nil M.history)
          ∙ sym (ap (λ (a : Answer). M.history ++ entries_of a.next e) refused);
    }

-- an accepted request makes the history longer
grown : (M N : Machine) (e : Entry) {reply : Reply} → HasAnswered M N e reply → (S : State) → (answer (state_of M) e.request).next ≡ Some S →
    length M.history < length N.history
grown M N e h S is =
    let long : length N.history ≡ length (M.history ++ e ∷ []) = ap length (h.history ∙ rw is refl) in
    omega (arith, long, length-append M.history (e ∷ []))

-- an answer by its two parts
parts : (a : Answer) (reply : Reply) (next : Option State) → reply ≡ a.reply → a.next ≡ next → a ≡ record { reply = reply; next = next }
parts a reply next told is = rw (told, sym is) refl

-- what is answered and adds no entry is told alone
pub answered-alone : (M N : Machine) (e : Entry) (reply : Reply) → HasAnswered M N e reply → length N.history ≡ length M.history →
    IsStepFrom M e (Answered reply)
answered-alone M N e reply h same = of (answer (state_of M) e.request).next refl where
  of : (o : Option State) → (answer (state_of M) e.request).next ≡ o → IsStepFrom M e (Answered reply)
  of None is = parts (answer (state_of M) e.request) reply None h.reply is
  of (Some S) is = absurd (omega (arith, same, grown M N e h S is))

-- what is answered and adds an entry is accepted
pub answered-on : (M N : Machine) (e : Entry) (reply : Reply) → HasAnswered M N e reply → ¬ (length N.history ≡ length M.history) →
    IsStepFrom M e (Accepted N reply)
answered-on M N e reply h more = of (answer (state_of M) e.request).next refl where
  of : (o : Option State) → (answer (state_of M) e.request).next ≡ o → IsStepFrom M e (Accepted N reply)
  of None is = absurd (more (ap length (h.history ∙ rw is (append-nil M.history))))
  of (Some S) is =
      let state : state_of N ≡ S = h.state ∙ rw is refl in
      (parts (answer (state_of M) e.request) reply (Some (state_of N)) h.reply (is ∙ ap Some (sym state)), h.history ∙ rw is refl)

-- ---- answers in full

-- a reply that leaves the state
pub told-is : (S : State) (r : Request) (reply : Reply) → proposed S r ≡ told reply → answer S r ≡ told reply
told-is S r reply proposal = ap (limited S) proposal

-- an entry, where there is room for it
pub entry-is : (S T : State) (r : Request) (reply : Reply) → proposed S r ≡ record { reply = reply; next = Some T } →
    S.version < longest_history → answer S r ≡ record { reply = reply; next = Some T }
entry-is S T r reply proposal room = bounded S r room ∙ proposal

-- and where there is none
pub full-entry-is : (S T : State) (r : Request) (reply : Reply) → proposed S r ≡ record { reply = reply; next = Some T } →
    longest_history ≤ S.version → answer S r ≡ told (Refused (Full History))
full-entry-is S T r reply proposal full = ap (limited S) proposal ∙ rw (le-leb longest_history S.version full) refl

-- ---- a step taken

pub step-answered : (M : Machine) (e : Entry) (reply : Reply) → IsStepFrom M e (Answered reply) → HasAnswered M M e reply
step-answered M e reply is = record {
  reply = sym (ap (λ (a : Answer). a.reply) is);
  state = sym (ap (after (state_of M)) is);
  history = sym (append-nil M.history) ∙ sym (ap (λ (a : Answer). M.history ++ entries_of a.next e) is);
}

pub step-accepted : (M N : Machine) (e : Entry) (reply : Reply) → IsStepFrom M e (Accepted N reply) → HasAnswered M N e reply
step-accepted M N e reply is = record {
  reply = sym (ap (λ (a : Answer). a.reply) is.0);
  state = sym (ap (after (state_of M)) is.0);
  history = is.1 ∙ sym (ap (λ (a : Answer). M.history ++ entries_of a.next e) is.0);
}

-- a change made in place, where no last change is to be told
pub made-answered : (M N : Machine) (e : Entry) (c : Change) (reply : Reply) → proposed (state_of M) e.request ≡ entered (state_of M) None c →
    with_changes M.graph (length M.history + 1) N.graph ≡ N.graph → effect M.graph c ≡ Ok N.graph → length M.history < longest_history → N.history ≡ M.history ++ e ∷ [] →
    reply ≡ Done 0 (shown_of (made_by M.graph c)) → HasAnswered M N e reply
made-answered M N e c reply proposal settled made room grows says = step-accepted M N e reply (full, grows) where
  S : State
  S = state_of M

  long : S.version + 1 ≡ length N.history
  long = let more = length-append M.history (e ∷ []) in let same = ap length grows in omega (arith, more, same)

  next : State
  next = record { graph = with_changes S.graph (S.version + 1) N.graph; version = S.version + 1 }

  next-is : next ≡ state_of N
  next-is =
      ap (λ (K : Graph). let T : State = record { graph = K; version = S.version + 1 } in T)
      settled
      ∙ ap (λ (n : ℕ). let T : State = record { graph = N.graph; version = n } in T) long

  full : answer S e.request ≡ record { reply = reply; next = Some (state_of N) }
  full =
      entry-is S next e.request (Done 0 (shown_of (made_by M.graph c))) (entered-is S e.request c N.graph proposal made) room
      ∙ rw (next-is, says) refl

-- ---- a draft whose kept reviews are settled

settled-is : (G H : Graph) (version : ℕ) → with_changes G version H ≡ reviews_settled G version H
unfolding reviews_settled
settled-is G H version = refl

module _ (M D : Machine) (K : Graph) (r : Request) (reply : Reply) where
  abbrev version : ℕ
  version = length M.history + 1

  -- the answer by a graph
  abbrev by_graph : Graph → Answer
  by_graph H = record { reply = reply; next = Some (record { graph = H; version = version }) }

  module _ (settled : D.graph ≡ reviews_settled M.graph version K) (proposal : proposed (state_of M) r ≡ by_graph (with_changes M.graph version K)) where
    settled-proposed : proposed (state_of M) r ≡ by_graph D.graph
    settled-proposed = proposal ∙ ap by_graph (settled-is M.graph K version ∙ sym settled)

    pub settled-answered : D.history ≡ M.history → IsReplayed M → IsAnswered D r
    settled-answered history replayed =
        subst (λ (entries : List Entry). IsAnswered (record { graph = D.graph; history = entries }) r) (sym history)
        (ap (λ (S : State). (proposed S r).next) replayed.content ∙ ap (λ (a : Answer). a.next) settled-proposed)

    -- it is the next state
    pub settled-step : (N : Machine) (e : Entry) → e.request ≡ r → D.history ≡ M.history → length D.history < longest_history →
        N ≡ record { graph = D.graph; history = D.history ++ e ∷ [] } → IsStepFrom M e (Accepted N reply)
    settled-step N e asks history room is = (ap (answer (state_of M)) asks ∙ entry-is (state_of M) next r reply settled-proposed within ∙ on, grows) where
      grows : N.history ≡ M.history ++ e ∷ []
      grows = ap (λ (m : Machine). m.history) is ∙ ap (λ (entries : List Entry). entries ++ e ∷ []) history

      long : length N.history ≡ version
      long = let more = length-append M.history (e ∷ []) in let same = ap length grows in omega (arith, more, same)

      within : length M.history < longest_history
      within = let same = ap length history in omega (arith, room, same)

      next : State
      next = record { graph = D.graph; version = version }

      on : by_graph D.graph ≡ record { reply = reply; next = Some (state_of N) }
      on = ap by_graph (sym (ap (λ (m : Machine). m.graph) is))
          ∙ ap (λ (n : ℕ). let a : Answer = record { reply = reply; next = Some (record { graph = N.graph; version = n }) } in a) (sym long)

    -- but for a full history
    pub settled-full : (e : Entry) → e.request ≡ r → D.history ≡ M.history → longest_history ≤ length D.history →
        IsStepFrom M e (Answered (Refused (Full History)))
    settled-full e asks history full =
        let same = ap length history in
        let next : State = record { graph = D.graph; version = version } in
        ap (answer (state_of M)) asks ∙ full-entry-is (state_of M) next r reply settled-proposed (omega (arith, full, same))
