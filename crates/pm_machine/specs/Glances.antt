-- Which requests need the desk, and what a look at a state says of the others. The project's own.
use Rattle.std.specs.Prelude.{ℕ, ◌≡◌, ◌&&◌, Bool, true, false, not, nat_lt, List, length, Result, Ok, Err, Some}
use Rattle.pm_model.specs.Results.{and_then}
use Rattle.pm_model.specs.State.{State, Graph}
use Rattle.pm_model.specs.Answer.{acting, accessed, answer, is_ahead, told}
use Rattle.pm_model.specs.Events.{event, responders}
use Rattle.pm_model.specs.declared.events.Event.{Event}
use Rattle.pm_model.specs.declared.replies.Refusal.{Refusal}
use Rattle.pm_model.specs.declared.requests.Body.{Body}
use Rattle.pm_model.specs.declared.requests.Body.TheVariants as body
use Rattle.pm_model.specs.declared.requests.Request.{Request}
use Rattle.pm_machine.specs.declared.glances.Glance.{Glance}
use Rattle.pm_machine.specs.declared.glances.Glance.TheVariants.{Answer, NeedsDesk}

-- the event of an access, where it is granted
abbrev pub accessed_event : Graph → ℕ → List ℕ → List ℕ → Result Event Refusal
accessed_event G q right target =
    and_then (acting G q) (λ u. and_then (accessed G u q right target) (λ t. Ok (event u q right t)))

-- some obligation responds to an access that is granted
abbrev pub is_awaited : Graph → Result Event Refusal → Bool
is_awaited G (Ok e) = nat_lt 0 (length (responders G G.obligations (Some e)))
is_awaited G (Err why) = false

-- a command does; an access does where it is granted, isn't ahead, and some obligation responds to it; a review doesn't
abbrev pub body_needs_desk : Graph → Bool → Body → Bool
body_needs_desk G ahead body.Version = false
body_needs_desk G ahead (body.Access q right target) = not ahead && is_awaited G (accessed_event G q right target)
body_needs_desk G ahead (body.Review q question) = false
body_needs_desk G ahead _ = true

abbrev pub needs_desk : State → Request → Bool
needs_desk S request = body_needs_desk S.graph (is_ahead request.after S.version) request.body

-- exactly those that need the desk are left to it; each other gets the machine's reply, which leaves the state
abbrev pub IsGlanced : State → Request → Glance → Type 0
IsGlanced S request (Answer reply) = (needs_desk S request ≡ false) × (answer S request ≡ told reply)
IsGlanced S request NeedsDesk = needs_desk S request ≡ true
