-- A call that tests a rule, and may lack memory.
use Rattle.std.specs.Prelude.{Result, Ok, Err, ⊤}
use Rattle.pm_sound.specs.declared.errors.SoundError.{SoundError}
use Rattle.pm_sound.specs.declared.errors.SoundError.TheVariants.{Unsound, Memory}

-- Ok exactly where the fact holds, unless there was no memory
abbrev pub Tells : {A : Type 0} → Result A SoundError → Type 0 → Type 0
Tells (Ok a) P = P
Tells (Err Unsound) P = P → ⊥
Tells (Err Memory) P = ⊤
