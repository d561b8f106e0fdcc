-- What a request comes to before anything is changed.
use Rattle.std.specs.Prelude.{ℕ, Option, None, Some, IfSome}
use Rattle.pm_model.specs.State.{State, Graph}
use Rattle.pm_model.specs.Answer.{Answer, told, entered, granted}
use Rattle.pm_model.specs.Events.{raised}
use Rattle.pm_model.specs.Formed.{IsLive, IsNamed}
use Rattle.pm_model.specs.declared.events.Event.{Event}
use Rattle.pm_model.specs.declared.requests.Change as requests
use Rattle.pm_affect.specs.Counting.{Work, work_entered, work_granted}
use Rattle.pm_pattern.specs.Live.{IsEventLive}
use Rattle.pm_state.specs.Containing.{relation_in}
use Rattle.pm_step.specs.declared.proposals.Actor.{Actor}
use Rattle.pm_step.specs.declared.proposals.Proposal.{Proposal}
use Rattle.pm_step.specs.declared.proposals.Proposal.TheVariants.{Told, Change, Granted}

-- the event that the change raises, where some user gives it
abbrev pub event_by : Graph → Option Actor → requests.Change → Option Event
event_by G None change = None
event_by G (Some by) change = raised G by.user by.process change

-- the answer that it comes to, were the history without a limit
abbrev pub answer_by : State → Proposal → Answer
answer_by S (Told reply) = told reply
answer_by S (Change change by) = entered S (event_by S.graph by change) change
answer_by S (Granted e) = granted S e

-- how much work it is
abbrev pub work_by_proposal : Work → State → Proposal → ℕ
work_by_proposal w S (Told reply) = 0
work_by_proposal w S (Change change by) = work_entered w S (event_by S.graph by change) change
work_by_proposal w S (Granted e) = work_granted w S e

-- the user who acts is live
abbrev pub IsActorLive : Graph → Option Actor → Type 0
IsActorLive G by = IfSome by (λ (a : Actor). IsLive G.elements a.user)

-- a change names what the graph has, and so does an event
abbrev pub IsPossible : State → Proposal → Type 0
IsPossible S (Told reply) = Unit {0}
IsPossible S (Change change by) = IsNamed S.graph change × IsActorLive S.graph by
IsPossible S (Granted e) = IsEventLive (relation_in S.graph) e
