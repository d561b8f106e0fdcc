-- That each denial that a reply tells names its cause: the right is one that was asked for on the target, and the reason
-- holds of whoever asked. A response asks by the authority of its obligation's author, in the graph as the responses before
-- it have left it.
use Rattle.std.specs.Prelude.{◌≡◌, ◌+◌, ℕ, List, ◌∷◌, ◌++◌, length, Option, Some, None, Ok, Err, Contains}
use Rattle.pm_model.specs.State.{State, Graph}
use Rattle.pm_model.specs.Sessions.{user_of}
use Rattle.pm_model.specs.RightSet.{bit_named}
use Rattle.pm_model.specs.Resolve.{look_up, resolve, resolve_question}
use Rattle.pm_model.specs.Authority.{right_name, required, required_by, ruling}
use Rattle.pm_model.specs.Effect.{effect}
use Rattle.pm_model.specs.Events.{event, names_in, obliging, raised, responders}
use Rattle.pm_model.specs.Responses.{acted, bound, response_from, responses}
use Rattle.pm_model.specs.Answer.{accessed}
use Rattle.pm_model.specs.declared.actions.Action.{Action}
use Rattle.pm_model.specs.declared.events.Event.{Event}
use Rattle.pm_model.specs.declared.events.EventNames.{EventNames}
use Rattle.pm_model.specs.declared.obligations.Obligation.{Obligation}
use Rattle.pm_model.specs.declared.replies.Refusal.{Refusal}
use Rattle.pm_model.specs.declared.replies.Refusal.TheVariants.{Denied}
use Rattle.pm_model.specs.declared.replies.Reply.{Reply}
use Rattle.pm_model.specs.declared.replies.Reply.TheVariants.{Refused, ResponseRefused}
use Rattle.pm_model.specs.declared.requests.Body.{Body}
use Rattle.pm_model.specs.declared.requests.Body.TheVariants.{Access, Admin, Review}
use Rattle.pm_model.specs.declared.requests.Change.{Change}
use Rattle.pm_model.specs.declared.requests.Command.{Command}
use Rattle.pm_model.specs.declared.requests.Question.{Question}
use Rattle.pm_model.specs.declared.requests.Review as review
use Rattle.pm_denials.specs.Reasons.{HasCause, IsSpared}

-- ---- what is asked

-- of a user's access: the right that has this name, on the element that has that one
abbrev pub IsAskedByAccess : Graph → List ℕ → List ℕ → ℕ → ℕ → Type 0
IsAskedByAccess G right target r e = (bit_named G.rights right ≡ Some r) × (look_up G target ≡ Ok e)

-- of a user's command: a capability that its change asks for
abbrev pub IsAskedByCommand : Graph → ℕ → Command → ℕ → ℕ → Type 0
IsAskedByCommand G u command r e = (d : Change) × (resolve G u command ≡ Ok d) × Contains (required G d) (r, e)

-- of a question: a capability that its review asks for
abbrev pub IsAskedByQuestion : Graph → Question → ℕ → ℕ → Type 0
IsAskedByQuestion G question r e = (v : review.Review) × (resolve_question G question ≡ Ok v) × Contains (required_by v) (r, e)

-- ---- what a denial says

-- where it is a denial
abbrev pub IfDenial : Refusal → Type 0 → Type 0
IfDenial (Denied right target reason) P = P
IfDenial _ P = Unit {0}

-- what is denied to u and q is a right that was asked for on the target, root isn't denied it in administration, and the
-- reason holds
abbrev pub TellsCause : Graph → ℕ → Option ℕ → (ℕ → ℕ → Type 0) → Refusal → Type 0
TellsCause G u q Asked (Denied right target reason) =
    (r : ℕ) × Asked r target × (right_name G r ≡ right) × (IsSpared u r → ⊥) × HasCause G u q r target reason
TellsCause G u q Asked _ = Unit {0}

-- ---- of a request

-- it is denied to a process, and to the user for whom that acts
abbrev pub TellsOwnCause : Graph → Body → Refusal → Type 0
TellsOwnCause G (Access q right target) why =
    (u : ℕ) × (user_of G.procs q ≡ Some u) × TellsCause G u (Some q) (IsAskedByAccess G right target) why
TellsOwnCause G (Admin q command) why =
    (u : ℕ) × (user_of G.procs q ≡ Some u) × TellsCause G u (Some q) (IsAskedByCommand G u command) why
TellsOwnCause G (Review q question) why =
    (u : ℕ) × (user_of G.procs q ≡ Some u) × TellsCause G u (Some q) (IsAskedByQuestion G question) why
TellsOwnCause G _ why = ⊥

-- ---- of a response

-- the request raises the event e, its own effect makes G, and these obligations respond
abbrev pub Raises : State → Body → Event → Graph → List Obligation → Type 0
Raises S (Access q right target) e G obligations =
    (u : ℕ) × (t : ℕ) × (user_of S.graph.procs q ≡ Some u) × (accessed S.graph u q right target ≡ Ok t) × (event u q right t ≡ e)
    × (S.graph ≡ G) × (responders S.graph S.graph.obligations (Some e) ≡ obligations)
Raises S (Admin q command) e G obligations =
    (u : ℕ) × (d : Change) × (user_of S.graph.procs q ≡ Some u) × (ruling S.graph u (Some q) command ≡ Ok d)
    × (raised S.graph u q d ≡ Some e) × (effect S.graph d ≡ Ok G) × (responders S.graph (obliging S.graph d) (Some e) ≡ obligations)
Raises S _ e G obligations = ⊥

-- the action of this number, of the obligation of this name, is refused
pub record IsStopped (names : EventNames) (version : ℕ) (G : Graph) (obligations : List Obligation) (name : List ℕ) (number : ℕ) (why : Refusal) : Type 0 where
  pub earlier : List Obligation
  pub obligation : Obligation
  pub later : List Obligation
  pub done : List Action
  pub action : Action
  pub left : List Action
  pub named : obligation.name ≡ name
  pub numbered : length done + 1 ≡ number
  -- it is one of those that respond, and the action is one of its response
  pub responds : obligations ≡ earlier ++ obligation ∷ later
  pub acts : obligation.response ≡ done ++ action ∷ left
  -- what the obligations before it make of G
  pub between : Graph
  pub responded : responses names version G earlier ≡ Ok between
  -- and what its actions before this one make of that
  pub before : Graph
  pub so_far : response_from names version obligation (length earlier + 1) 1 between done ≡ Ok before
  pub refused : acted names version before obligation.author (record { obligation = length earlier + 1; action = number }) action ≡ Err why
  -- there the author, with no process, is denied what the action's command asks for
  pub cause : TellsCause before obligation.author None (IsAskedByCommand before obligation.author (bound names (record { obligation = length earlier + 1; action = number }) version action.act)) why

-- ---- of a reply

-- what it denies, it denies for the reason that it tells
abbrev pub NamesCause : State → Body → Reply → Type 0
NamesCause S body (Refused why) = IfDenial why (TellsOwnCause S.graph body why)
NamesCause S body (ResponseRefused name number why) =
    IfDenial why
    ((e : Event) × (G : Graph) × (obligations : List Obligation) × Raises S body e G obligations
    × IsStopped (names_in S.graph e) (S.version + 1) G obligations name number why)
NamesCause S body _ = Unit {0}
