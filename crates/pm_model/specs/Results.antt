-- Steps that may fail, one after another, and the first of several tests that says yes.
use Rattle.std.specs.Prelude.{Bool, List, [], ◌∷◌, Option, None, Some, Result, Ok, Err, if◌then◌else◌}

-- the second step on what the first gives, where it doesn't fail
abbrev pub and_then : {A B E : Type 0} → Result A E → (A → Result B E) → Result B E
and_then (Ok a) f = f a
and_then (Err e) f = Err e

-- what stands beside the first test that says yes
abbrev pub first_of : {E : Type 0} → List (Bool × E) → Option E
first_of [] = None
first_of (check ∷ checks) = if check.0 then Some check.1 else first_of checks

-- refused, where there is a reason, or else this value
abbrev pub unless : {A E : Type 0} → Option E → A → Result A E
unless (Some why) a = Err why
unless None a = Ok a
