-- The machine's answer to a request: a reply, and a new state where the request is accepted. The project's own, but for
-- the effects and responses that it puts together. The order of refusals is `ahead`, the process, the names, the
-- capabilities, the preconditions, a response that is refused, and a full history last.
use Rattle.std.specs.Prelude.{ℕ, List, [], ◌∷◌, length, Bool, false, ◌+◌, ◌&&◌, if◌then◌else◌, nat_lt, nat_le, Option, None, Some, Result, Ok, Err, unwrap_or, is_some}
use Rattle.pm_model.specs.Results.{and_then}
use Rattle.pm_model.specs.State.{State, Graph}
use Rattle.pm_model.specs.Effect.{refusal, effect}
use Rattle.pm_model.specs.Events.{event, names_in, obliging, raised, responders}
use Rattle.pm_model.specs.Resolve.{look_up}
use Rattle.pm_model.specs.Responses.{Stopped, responses}
use Rattle.pm_model.specs.declared.events.Event.{Event}
use Rattle.pm_model.specs.declared.obligations.Obligation.{Obligation}
use Rattle.pm_model.specs.declared.requests.Question.{Question}
use Rattle.pm_model.specs.declared.requests.Request.{Request}
use Rattle.pm_model.specs.declared.requests.Body.{Body}
use Rattle.pm_model.specs.declared.requests.Body.TheVariants.{Version, OpenSession, CloseSession, StartProcess, EndProcess, Access, Admin, Review}
use Rattle.pm_model.specs.declared.requests.Change.{Change}
use Rattle.pm_model.specs.declared.requests.Change.TheVariants as change
use Rattle.pm_model.specs.declared.replies.Refusal.{Refusal}
use Rattle.pm_model.specs.declared.replies.Refusal.TheVariants.{UnknownProcess, UnknownName, Denied, Full}
use Rattle.pm_model.specs.declared.replies.Reason.{Reason}
use Rattle.pm_model.specs.declared.replies.Shown.TheVariants.{Nothing}
use Rattle.pm_model.specs.Made.{made_by, shown_of}
use Rattle.pm_model.specs.Sessions.{user_of}
use Rattle.pm_model.specs.Authority.{denial_in, ruling}
use Rattle.pm_model.specs.Reviews.{review_ruling, reviewed}
use Rattle.pm_model.specs.LastChanges.{with_changes}
use Rattle.pm_model.specs.RightSet.{bit_named, is_access_right}
use Rattle.pm_model.specs.declared.replies.Table.TheVariants.{History}
use Rattle.pm_model.specs.declared.replies.Reply.{Reply}
use Rattle.pm_model.specs.declared.replies.Reply.TheVariants.{Done, Granted, Ahead, Refused, ResponseRefused}

pub record Answer : Type 0 where
  pub reply : Reply
  pub next : Option State

-- a reply that leaves the state
abbrev pub told : Reply → Answer
told reply = record { reply = reply; next = None }

-- ---- entries

-- the responses of these obligations to the event, from this graph on
abbrev pub responded : State → Option Event → List Obligation → Graph → Result Graph Stopped
responded S None obligations G = Ok G
responded S (Some e) obligations G = responses (names_in S.graph e) (S.version + 1) G obligations

-- the new graph with the last changes of its kept reviews, and the version one higher; or why the responses stopped
abbrev pub settled : State → Reply → Result Graph Stopped → Answer
settled S reply (Ok G) =
    record { reply = reply; next = Some (record { graph = with_changes S.graph (S.version + 1) G; version = S.version + 1 }) }
settled S reply (Err stop) = told (ResponseRefused stop.obligation stop.action stop.why)

-- the request's own effect and then the responses, or the refusal of the effect
abbrev pub made : State → Reply → Option Event → List Obligation → Result Graph Refusal → Answer
made S reply e obligations (Ok G) = settled S reply (responded S e obligations G)
made S reply e obligations (Err why) = told (Refused why)

-- the change as an entry, by which this event is raised
abbrev pub entered_with : State → Change → Option Event → List Obligation → Answer
entered_with S change e obligations =
    made S (Done (length obligations) (shown_of (made_by S.graph change))) e obligations (effect S.graph change)

abbrev pub entered : State → Option Event → Change → Answer
entered S e change = entered_with S change e (responders S.graph (obliging S.graph change) e)

-- ---- accesses

-- the right of an access
abbrev pub if_access : List ℕ → Option ℕ → Result ℕ Refusal
if_access name None = Err (UnknownName name)
if_access name (Some bit) = if is_access_right bit then Ok bit else Err (UnknownName name)

abbrev pub allowed_unless : List ℕ → ℕ → Option Reason → Result ℕ Refusal
allowed_unless right target None = Ok target
allowed_unless right target (Some reason) = Err (Denied right target reason)

-- the target; the right and it are looked up in this order, then the user's privilege and the prohibitions decide
abbrev pub accessed : Graph → ℕ → ℕ → List ℕ → List ℕ → Result ℕ Refusal
accessed G u q right target =
    and_then (if_access right (bit_named G.rights right)) (λ bit.
    and_then (look_up G target) (λ e. allowed_unless right e (denial_in G u (Some q) bit e)))

-- an entry exactly where some obligation responds
abbrev pub granted_with : State → Event → List Obligation → Answer
granted_with S e [] = told (Granted 0)
granted_with S e (o ∷ os) = settled S (Granted (length (o ∷ os))) (responded S (Some e) (o ∷ os) S.graph)

abbrev pub granted : State → Event → Answer
granted S e = granted_with S e (responders S.graph S.graph.obligations (Some e))

-- ---- requests

abbrev pub or_refused : {A : Type 0} → Result A Refusal → (A → Answer) → Answer
or_refused (Ok a) f = f a
or_refused (Err why) f = told (Refused why)

-- the user for whom a process acts
abbrev pub acting : Graph → ℕ → Result ℕ Refusal
acting G process = known_process (user_of G.procs process) where
  known_process : Option ℕ → Result ℕ Refusal
  known_process (Some u) = Ok u
  known_process None = Err UnknownProcess

abbrev pub administered : State → ℕ → ℕ → Result Change Refusal → Answer
administered S u q change = or_refused change (λ c. entered S (raised S.graph u q c) c)

abbrev pub answer_access : State → ℕ → ℕ → List ℕ → List ℕ → Answer
answer_access S u q right target = or_refused (accessed S.graph u q right target) (λ t. granted S (event u q right t))

abbrev pub answer_review : State → ℕ → ℕ → Question → Answer
answer_review S u q question = or_refused (review_ruling S.graph u (Some q) question) (λ r. told (reviewed S.graph r))

abbrev pub answer_body : State → Body → Answer
answer_body S Version = told (Done 0 Nothing)
answer_body S (OpenSession user) = or_refused (look_up S.graph user) (λ u. entered S None (change.OpenSession u))
answer_body S (CloseSession session) = entered S None (change.CloseSession session)
answer_body S (StartProcess session) = entered S None (change.StartProcess session)
answer_body S (EndProcess process) = entered S None (change.EndProcess process)
answer_body S (Access q right target) = or_refused (acting S.graph q) (λ u. answer_access S u q right target)
answer_body S (Admin q command) = or_refused (acting S.graph q) (λ u. administered S u q (ruling S.graph u (Some q) command))
answer_body S (Review q question) = or_refused (acting S.graph q) (λ u. answer_review S u q question)

abbrev pub is_ahead : Option ℕ → ℕ → Bool
is_ahead None version = false
is_ahead (Some after) version = nat_lt version after

-- the answer, were the history without a limit
abbrev pub proposed : State → Request → Answer
proposed S request = if is_ahead request.after S.version then told Ahead else answer_body S request.body

abbrev pub longest_history : ℕ
longest_history = 262144

-- why a change to which nothing responds isn't made as an entry: the first precondition that isn't met; where all are,
-- a full history
abbrev pub refusal_in : State → Change → Option Refusal
refusal_in S change = or_full (refusal S.graph change) (nat_le longest_history S.version) where
  or_full : Option Refusal → Bool → Option Refusal
  or_full (Some why) full = Some why
  or_full None full = if full then Some (Full History) else None

-- what would be an entry is refused where the history is full
abbrev pub limited : State → Answer → Answer
limited S a = if is_some a.next && nat_le longest_history S.version then told (Refused (Full History)) else a

abbrev pub answer : State → Request → Answer
answer S request = limited S (proposed S request)

-- the state after the answer
abbrev pub after : State → Answer → State
after S a = unwrap_or a.next S
