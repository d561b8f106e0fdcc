-- A right more, by its name.
use Rattle.std.specs.Prelude.{ℕ, List, Result, Ok}
use Rattle.pm_model.specs.Results.{and_then}
use Rattle.pm_model.specs.State.{Graph}
use Rattle.pm_model.specs.RightSet.{bit_named, with_right}
use Rattle.pm_model.specs.Resolve.{known}
use Rattle.pm_model.specs.declared.replies.Refusal.{Refusal}

-- the set of the rest of the names, with the right of this one
abbrev pub with_named : Graph → List ℕ → Result ℕ Refusal → Result ℕ Refusal
with_named G name rest = and_then (known name (bit_named G.rights name)) (λ bit. and_then rest (λ rights. Ok (with_right bit rights)))
