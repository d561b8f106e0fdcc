-- A reply with a list leaves the state.
use Rattle.std.proofs.Common.{◌≡◌, ◌<◌, List, [], ◌∷◌, length, Option, Some, None, Result, Ok, Err, refl, arith}
use Rattle.pm_model.specs.State.{State, Graph}
use Rattle.pm_model.specs.Effect.{effect}
use Rattle.pm_model.specs.Events.{obliging, responders}
use Rattle.pm_model.specs.Made.{made_by, shown_of}
use Rattle.pm_model.specs.Responses.{Stopped}
use Rattle.pm_model.specs.Reviews.{reviewed}
use Rattle.pm_model.specs.Answer.{Answer, told, responded, settled, made, granted_with, answer}
use Rattle.pm_model.specs.declared.events.Event.{Event}
use Rattle.pm_model.specs.declared.obligations.Obligation.{Obligation}
use Rattle.pm_model.specs.declared.requests.Request.{Request}
use Rattle.pm_model.specs.declared.replies.Refusal.{Refusal}
use Rattle.pm_model.specs.declared.replies.Refusal.TheVariants.{Full}
use Rattle.pm_model.specs.declared.replies.Table.TheVariants.{History}
use Rattle.pm_model.specs.declared.replies.Reply.{Reply}
use Rattle.pm_model.specs.declared.replies.Reply.TheVariants.{Done, Granted, Ahead, Refused}
use Rattle.pm_model.specs.declared.replies.Shown.TheVariants.{Nothing}
use Rattle.pm_laws.proofs.Bodies.{answer-is, body-is}
use Rattle.pm_print.specs.Growth.{items_in}

abbrev pub IsListLeft : Answer → Type 0
IsListLeft a = 0 < items_in a.reply → a.next ≡ None

told-left : (reply : Reply) → IsListLeft (told reply)
told-left reply h = refl

settled-left : (S : State) (reply : Reply) (r : Result Graph Stopped) → items_in reply ≡ 0 → IsListLeft (settled S reply r)
settled-left S reply (Ok G) none h = absurd (let no : ⊥ = omega arith in no)
settled-left S reply (Err stop) none h = refl

made-left : (S : State) (reply : Reply) (e : Option Event) (obligations : List Obligation) (r : Result Graph Refusal) → items_in reply ≡ 0 →
    IsListLeft (made S reply e obligations r)
made-left S reply e obligations (Ok G) none = settled-left S reply (responded S e obligations G) none
made-left S reply e obligations (Err why) none = told-left (Refused why)

granted-left : (S : State) (e : Event) (obligations : List Obligation) → IsListLeft (granted_with S e obligations)
granted-left S e [] = told-left (Granted 0)
granted-left S e (o ∷ os) = settled-left S (Granted (length (o ∷ os))) (responded S (Some e) (o ∷ os) S.graph) refl

pub list_leaves : (S : State) (r : Request) → IsListLeft (answer S r)
list_leaves S r =
    answer-is IsListLeft S r (told-left (Refused (Full History))) (told-left Ahead)
    (body-is IsListLeft S r.body (told-left (Done 0 Nothing)) (λ why. told-left (Refused why))
    (λ e c. made-left S (Done (length (responders S.graph (obliging S.graph c) e)) (shown_of (made_by S.graph c))) e (responders S.graph (obliging S.graph c) e) (effect S.graph c) refl)
    (λ e. granted-left S e (responders S.graph S.graph.obligations (Some e))) (λ review. told-left (reviewed S.graph review)))
