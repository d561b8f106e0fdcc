-- Requests that ask and change nothing, and what they come to.
use Rattle.std.specs.Prelude.{◌≡◌, Bool, true, false, Result, Ok, Err}
use Rattle.std.specs.List.{list_any}
use Rattle.pm_model.specs.KeptReviews.{is_kept_of}
use Rattle.pm_model.specs.State.{Graph}
use Rattle.pm_model.specs.declared.events.Event.{Event}
use Rattle.pm_model.specs.declared.replies.Refusal.{Refusal}
use Rattle.pm_model.specs.declared.replies.Shown.TheVariants.{Nothing}
use Rattle.pm_model.specs.declared.requests.Body.{Body}
use Rattle.pm_model.specs.declared.requests.Body.TheVariants as body
use Rattle.pm_model.specs.declared.requests.Review.{Review}
use Rattle.pm_model.specs.declared.requests.Review.TheVariants.{Kept}
use Rattle.pm_model.specs.declared.replies.Reply.TheVariants as reply
use Rattle.pm_machine.specs.Glances.{accessed_event}
use Rattle.pm_step.specs.declared.proposals.Proposal.{Proposal}
use Rattle.pm_step.specs.declared.proposals.Proposal.TheVariants.{Told, Change, Granted}

-- it asks what the version is, for an access or for a review
abbrev pub only_asks : Body → Bool
only_asks body.Version = true
only_asks (body.Access process right target) = true
only_asks (body.Review process question) = true
only_asks _ = false

-- it is a reply
abbrev pub IsReply : Proposal → Type 0
IsReply (Told reply) = Unit {0}
IsReply _ = ⊥

-- it is a reply or an access that is granted, and no change
abbrev pub IsTold : Proposal → Type 0
IsTold (Told reply) = Unit {0}
IsTold (Change change by) = ⊥
IsTold (Granted event) = Unit {0}

-- an access that is granted, by its event, or its refusal
abbrev pub proposal_of : Result Event Refusal → Proposal
proposal_of (Ok e) = Granted e
proposal_of (Err why) = Told (reply.Refused why)

-- what a request that only asks comes to, where it isn't ahead
abbrev pub IsAskedFor : Graph → Body → Proposal → Type 0
IsAskedFor G body.Version p = p ≡ Told (reply.Done 0 Nothing)
IsAskedFor G (body.Access q right target) p = p ≡ proposal_of (accessed_event G q right target)
IsAskedFor G (body.Review q question) p = IsReply p
IsAskedFor G _ p = Unit {0}

-- what is asked for as it is kept is kept
abbrev pub IsOfKept : Graph → Review → Type 0
IsOfKept G (Kept of) = list_any (is_kept_of of) G.kept ≡ true
IsOfKept G _ = Unit {0}
