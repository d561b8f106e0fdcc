-- What was said on `err`.
use Rattle.std.specs.Prelude.{◌≡◌, ◌⊎◌, ℕ, List, Option}
use Rattle.std.specs.Io.KnownBytes.{Appends}
use Rattle.pm_model.specs.Causes.{Rose}
use Rattle.pm_run.specs.Fronts.{IsProperFront}

-- all of the text, and the count of faults is as before; or a front of it with something missing, and the count rose
pub record Said (taken grown : Option (List ℕ)) (before now : ℕ) (text : List ℕ) : Type 0 where
  pub written : List ℕ
  pub appended : Appends taken grown written
  pub told : ((written ≡ text) × (now ≡ before)) ⊎ (IsProperFront written text × Rose before now)
