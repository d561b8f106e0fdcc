-- What the calls of the machine tell.
use Rattle.std.specs.Prelude.{◌≡◌, ◌++◌, ◌∷◌, [], ℕ, length, Some, None}
use Rattle.pm_model.specs.Answer.{answer, after}
use Rattle.pm_model.specs.History.{Machine, state_of}
use Rattle.pm_model.specs.Recorded.{next_entry, entries_of}
use Rattle.pm_model.specs.declared.requests.Request.{Request}
use Rattle.pm_model.specs.declared.requests.Entry.{Entry}
use Rattle.pm_model.specs.declared.replies.Reply.{Reply}
use Rattle.pm_machine.specs.declared.versions.Stepped.{Stepped}
use Rattle.pm_machine.specs.declared.versions.Stepped.TheVariants.{Accepted, Answered}

-- the machine has answered the entry's request by this reply: the state has gone on by the answer, and the history has
-- the entry where it is accepted, and is the same where not
pub record HasAnswered (old new : Machine) (entry : Entry) (told : Reply) : Type 0 where
  pub reply : told ≡ (answer (state_of old) entry.request).reply
  pub state : state_of new ≡ after (state_of old) (answer (state_of old) entry.request)
  pub history : new.history ≡ old.history ++ entries_of (answer (state_of old) entry.request).next entry

-- a step gives the machine's answer: where the request is accepted, with the version after it, whose history has this one
-- entry more
abbrev pub IsStep : {V : Type 0} → (V → Machine) → Machine → Entry → Stepped V → Type 0
IsStep machine old entry (Accepted new told) =
    (answer (state_of old) entry.request ≡ record { reply = told; next = Some (state_of (machine new)) }) × ((machine new).history ≡ old.history ++ entry ∷ [])
IsStep machine old entry (Answered told) = answer (state_of old) entry.request ≡ record { reply = told; next = None }

-- so it has answered its only caller, to whom the version after the answer is told too
pub record Tells (old new : Machine) (request : Request) (told : Reply × ℕ) : Type 0 where
  pub answered : HasAnswered old new (next_entry old.history request) told.0
  pub version : told.1 ≡ length new.history
