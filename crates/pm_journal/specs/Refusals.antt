-- What no journal keeps. The project's own.
use Rattle.std.specs.Prelude.{◌≡◌, ◌⊎◌, ◌<◌, ◌++◌, ℕ, List, None, codes, length}
use Rattle.pm_model.specs.declared.requests.Request.{Request}
use Rattle.pm_print.specs.Askable.{IsAskable}
use Rattle.pm_print.specs.Requested.{request_text}

-- the line that asks for it, without its line feed, is longer than a record may have it
abbrev pub IsTooLong : Request → Type 0
IsTooLong request = (line : List ℕ) × (request_text None request ≡ line ++ codes "\n") × (8192 < length line)

-- no line asks for it, or too long a one
abbrev pub IsRefused : Request → Type 0
IsRefused request = (IsAskable request → ⊥) ⊎ IsTooLong request
