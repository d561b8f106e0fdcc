-- How much more work a machine has done once it has answered. The project's own.
use Rattle.std.specs.Prelude.{◌≡◌, ◌+◌, ℕ, Option, Some, None}
use Rattle.pm_model.specs.Answer.{answer}
use Rattle.pm_model.specs.History.{Machine, state_of}
use Rattle.pm_model.specs.State.{State}
use Rattle.pm_model.specs.declared.requests.Request.{Request}
use Rattle.pm_affect.specs.Counting.{Work, work_by, work_in}
use Rattle.pm_machine.specs.declared.versions.Stepped.{Stepped}
use Rattle.pm_machine.specs.declared.versions.Stepped.TheVariants.{Accepted, Answered}

-- work counts where there is a next state
abbrev pub if_next : Option State → ℕ → ℕ
if_next (Some next) n = n
if_next None n = 0

-- each count has risen by the work of the changes of the request, where it is accepted, and else not at all
abbrev pub HasCounted : Machine → Machine → Request → Type 0
HasCounted old new request = (w : Work) →
    work_in w new.history ≡ work_in w old.history + if_next (answer (state_of old) request).next (work_by w (state_of old) request)

-- so it has in the version that a step leads to
abbrev pub HasCountedFrom : Machine → Request → Stepped Machine → Type 0
HasCountedFrom old request (Accepted new told) =
    (w : Work) → work_in w new.history ≡ work_in w old.history + work_by w (state_of old) request
HasCountedFrom old request (Answered told) = Unit {0}
