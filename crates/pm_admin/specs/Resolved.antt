-- A look-up that may want memory beside.
use Rattle.std.specs.Prelude.{◌≡◌, Bool, true, false, IfSome, Result, Ok, Err}
use Rattle.pm_model.specs.State.{Graph}
use Rattle.pm_model.specs.Formed.{IsLive, IsNamed}
use Rattle.pm_model.specs.declared.requests.Change.{Change}
use Rattle.pm_model.specs.declared.requests.Change.TheVariants as change
use Rattle.pm_model.specs.declared.requests.Command.{Command}
use Rattle.pm_model.specs.declared.requests.Command.TheVariants.{Prohibit, Oblige}
use Rattle.pm_model.specs.declared.requests.Question.{Question}
use Rattle.pm_model.specs.declared.requests.Question.TheVariants.{Survey}
use Rattle.pm_model.specs.declared.replies.Refusal.{Refusal}
use Rattle.pm_model.specs.declared.replies.ChangeError.{ChangeError}
use Rattle.pm_model.specs.declared.replies.ChangeError.TheVariants.{Refused, Memory}

-- it gives what the definition gives, or tells that there was no memory
abbrev pub Finds : {A : Type 0} → Result A Refusal → Result A ChangeError → Type 0
Finds found (Ok a) = found ≡ Ok a
Finds found (Err (Refused why)) = found ≡ Err why
Finds found (Err Memory) = Unit {0}

-- the change that comes of the command holds lists of its own: the sets of a prohibition, or a response
abbrev pub holds_lists : Command → Bool
holds_lists (Prohibit name subject rights inc exc mode) = true
holds_lists (Oblige name when response) = true
holds_lists _ = false

-- the review that comes of the question holds a list of its own: the users of a survey
abbrev pub is_survey : Question → Bool
is_survey (Survey users) = true
is_survey _ = false

-- what the change names is live, whoever is to be the author
abbrev pub IsFound : Graph → Change → Type 0
IsFound G (change.Oblige o) = IfSome o.pattern.user (IsLive G.elements) × IfSome o.pattern.target (IsLive G.elements)
IsFound G c = IsNamed G c
