-- The errors of the table as a change tells them.
use Rattle.std.specs.Prelude.{◌≡◌, ℕ}
use Rattle.pm_elements.specs.declared.errors.ElementsError.{ElementsError}
use Rattle.pm_elements.specs.declared.errors.ElementsError.TheVariants as error
use Rattle.pm_model.specs.declared.replies.ChangeError.{ChangeError}
use Rattle.pm_model.specs.declared.replies.ChangeError.TheVariants.{Refused, Memory}
use Rattle.pm_model.specs.declared.replies.Refusal.TheVariants as refusal

abbrev pub told : ElementsError → ChangeError
told error.BadKinds = Refused refusal.BadKinds
told error.NameTaken = Refused refusal.NameTaken
told error.Already = Refused refusal.Already
told error.Absent = Refused refusal.Absent
told (error.Cycle from to) = Refused refusal.Cycle
told error.Occupied = Refused refusal.Occupied
told error.LastContainer = Refused refusal.LastContainer
told (error.Full table) = Refused (refusal.Full table)
told error.Memory = Memory

-- a cycle is told with the two elements of the assignment that would close it
abbrev pub IsCycleOf : ℕ → ℕ → ElementsError → Type 0
IsCycleOf x y (error.Cycle from to) = (from ≡ x) × (to ≡ y)
IsCycleOf x y _ = Unit {0}
