-- An answer that accepts raises the version by one, and each next number by one at most.
use Rattle.std.proofs.Common.{◌≡◌, ◌≤◌, ◌+◌, ◌<◌, ◌&&◌, ℕ, nat_le, Bool, false, List, [], ◌∷◌, length, Option, Some, Result, Ok, Err, is_some, refl, subst, arith}
use Rattle.std.proofs.lemmas.Bool.{cond_both, leb-false}
use Rattle.std.proofs.lemmas.Option.{same_Some}
use Rattle.pm_model.specs.Reviews.{reviewed}
use Rattle.pm_model.specs.State.{State, Graph}
use Rattle.pm_model.specs.Effect.{effect}
use Rattle.pm_model.specs.LastChanges.{with_changes}
use Rattle.pm_model.specs.Events.{obliging, responders}
use Rattle.pm_model.specs.Answer.{Answer, told, responded, settled, made, granted_with, proposed, longest_history, answer}
use Rattle.pm_model.specs.Responses.{Stopped}
use Rattle.pm_model.specs.declared.events.Event.{Event}
use Rattle.pm_model.specs.declared.obligations.Obligation.{Obligation}
use Rattle.pm_model.specs.declared.requests.Change.{Change}
use Rattle.pm_model.specs.declared.requests.Request.{Request}
use Rattle.pm_model.specs.declared.replies.Refusal.{Refusal}
use Rattle.pm_model.specs.declared.replies.Refusal.TheVariants.{Full}
use Rattle.pm_model.specs.declared.replies.Table.TheVariants.{History}
use Rattle.pm_model.specs.declared.replies.Reply.{Reply}
use Rattle.pm_model.specs.declared.replies.Reply.TheVariants.{Done, Granted, Ahead, Refused, ResponseRefused}
use Rattle.pm_model.specs.declared.replies.Shown.TheVariants.{Nothing}
use Rattle.pm_laws.proofs.Given.{numbers-given}
use Rattle.pm_laws.proofs.Responding.{AreLeft, responded-left}
use Rattle.pm_laws.proofs.Bodies.{answer-is, body-is}

-- by one at most, and never down
abbrev IsOneAtMost : ℕ → ℕ → Type 0
IsOneAtMost next later = (next ≤ later) × (later ≤ next + 1)

abbrev GiveOneAtMost : Graph → Graph → Type 0
GiveOneAtMost G H = IsOneAtMost G.procs.next_session H.procs.next_session × IsOneAtMost G.procs.next_process H.procs.next_process

-- one version on
pub record IsNext (S T : State) : Type 0 where
  pub given : GiveOneAtMost S.graph T.graph
  pub counted : T.version ≡ S.version + 1

-- what leaves the next numbers gives none
given-left : (G H K : Graph) → GiveOneAtMost G H → AreLeft H K → GiveOneAtMost G K
given-left G H K g left = rw (left.1, left.2) g

given-none : (G : Graph) → GiveOneAtMost G G
given-none G = ((omega arith, omega arith), (omega arith, omega arith))

given-made : (G H : Graph) (c : Change) → effect G c ≡ Ok H → GiveOneAtMost G H
given-made G H c is = let g = numbers-given G H c is in ((g.0.rises, g.0.by_one), (g.1.rises, g.1.by_one))

abbrev IsStepped : State → Answer → Type 0
IsStepped S a = (T : State) → a.next ≡ Some T → IsNext S T

told-stepped : (S : State) (reply : Reply) → IsStepped S (told reply)
told-stepped S reply T some = absurd (cc)

settled-stepped : (S : State) (reply : Reply) (r : Result Graph Stopped) → ((H : Graph) → r ≡ Ok H → GiveOneAtMost S.graph H) →
    IsStepped S (settled S reply r)
settled-stepped S reply (Ok H) gives = λ T some.
    let next : State = record { graph = with_changes S.graph (S.version + 1) H; version = S.version + 1 } in
    subst (IsNext S) (same_Some next T some) (record { given = gives H refl; counted = refl })
settled-stepped S reply (Err stop) gives = told-stepped S (ResponseRefused stop.obligation stop.action stop.why)

made-stepped : (S : State) (c : Change) (reply : Reply) (e : Option Event) (obligations : List Obligation) (r : Result Graph Refusal) →
    effect S.graph c ≡ r → IsStepped S (made S reply e obligations r)
made-stepped S c reply e obligations (Ok G) is =
    settled-stepped S reply (responded S e obligations G) (λ H done.
    given-left S.graph G H (given-made S.graph G c is) (responded-left S obligations G H e done))
made-stepped S c reply e obligations (Err why) is = told-stepped S (Refused why)

granted-stepped : (S : State) (e : Event) (obligations : List Obligation) → IsStepped S (granted_with S e obligations)
granted-stepped S e [] = told-stepped S (Granted 0)
granted-stepped S e (o ∷ os) =
    settled-stepped S (Granted (length (o ∷ os))) (responded S (Some e) (o ∷ os) S.graph) (λ H done.
    given-left S.graph S.graph H (given-none S.graph) (responded-left S (o ∷ os) S.graph H (Some e) done))

-- what is accepted is one step
pub accepted-next : (S : State) (r : Request) (T : State) → (answer S r).next ≡ Some T → IsNext S T
accepted-next S r =
    answer-is (IsStepped S) S r (told-stepped S (Refused (Full History))) (told-stepped S Ahead)
    (body-is (IsStepped S) S r.body (told-stepped S (Done 0 Nothing)) (λ why. told-stepped S (Refused why))
    (λ e c. made-stepped S c _ e (responders S.graph (obliging S.graph c) e) (effect S.graph c) refl)
    (λ e. granted-stepped S e (responders S.graph S.graph.obligations (Some e))) (λ review. told-stepped S (reviewed S.graph review)))

roomy : (o : Option State) (full : Bool) (T : State) → o ≡ Some T → (is_some o && full) ≡ false → full ≡ false
roomy o full T some shut = let is : (is_some o && full) ≡ full = rw some refl in cc

-- what is accepted has room in the history
pub accepted-room : (S : State) (r : Request) (T : State) → (answer S r).next ≡ Some T → S.version < longest_history
accepted-room S r T = let a = proposed S r in
    cond_both (is_some a.next && nat_le longest_history S.version) (told (Refused (Full History))) a
    (λ (b : Answer). b.next ≡ Some T → S.version < longest_history)
    (λ is some. absurd (cc))
    (λ is some. leb-false _ _ (roomy a.next (nat_le longest_history S.version) T some is))
