-- What a ruling tells.
use Rattle.std.specs.Prelude.{◌≡◌, Result, Err, IsOk}
use Rattle.pm_model.specs.declared.requests.Change.{Change}
use Rattle.pm_model.specs.declared.replies.Refusal.{Refusal}
use Rattle.pm_admin.specs.declared.rulings.Ruling.{Ruling}
use Rattle.pm_admin.specs.declared.rulings.Ruling.TheVariants.{Allowed, Refused}

-- allowed exactly where there is a change, and refused for its reason
abbrev pub IsRuling : Result Change Refusal → Ruling → Type 0
IsRuling ruled Allowed = IsOk ruled
IsRuling ruled (Refused why) = ruled ≡ Err why
