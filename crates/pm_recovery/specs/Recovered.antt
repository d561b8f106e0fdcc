-- A house that goes on from what the bytes of a disk stand for. The project's own.
use Rattle.std.specs.Prelude.{◌≡◌, ◌⊎◌, ℕ, List, [], ◌∷◌, ◌++◌, map, Option, Result, Ok}
use Rattle.pm_model.specs.Causes.{Rose}
use Rattle.pm_model.specs.declared.requests.Entry.{Entry}
use Rattle.pm_world.specs.Restored.{IsMade}
use Rattle.pm_house.specs.Restored.{IsUnmade, machine_of}
use Rattle.pm_house.specs.Seated.{AreBeginning, Seated}
use Rattle.pm_house.specs.declared.restored.RestoreError.TheVariants as unmade
use Rattle.pm_journal.specs.Heads.{HasStood}
use Rattle.pm_journal.specs.Notes.{Note, entry_of}
use Rattle.pm_journal.specs.Opens.{ComesTo, IsUnopened, Tells}
use Rattle.pm_journal.specs.declared.opened.OpenError.{OpenError}
use Rattle.pm_journal.specs.declared.opened.OpenError.TheVariants as open_fault
use Rattle.pm_recovery.specs.declared.recovering.RecoverError.{RecoverError}
use Rattle.pm_recovery.specs.declared.recovering.RecoverError.TheVariants as unrecovered

-- the bytes stand for these notes, and come to nothing else
pub record StandsForOnly (notes : List Note) (content : List ℕ) : Type 0 where
  pub stood : HasStood notes content
  pub only : (out : Result (List Note) OpenError) → ComesTo content out → out ≡ Ok notes

-- a house of so many seats makes this history, and each of its seats begins with all of it
pub record BeginWith (history : List Entry) (seats : ℕ) (places : List (Option Seated)) : Type 0 where
  pub made : IsMade seats history
  pub begin : AreBeginning (machine_of history) seats places

-- the seats begin with the entries of the notes that the bytes stand for
abbrev pub GoesOn : List ℕ → ℕ → List (Option Seated) → Type 0
GoesOn content seats places = (notes : List Note) × StandsForOnly notes content × BeginWith (map entry_of notes) seats places

-- the journal isn't opened, and that is told as what the bytes come to, or as want of memory, or as a fault of the disk; or it is, and no
-- house of so many seats makes its entries, or there is no memory for one
abbrev pub IsUnrecovered : {D : Type 0} → (D → List ℕ) → D → ℕ → RecoverError D → Type 0
IsUnrecovered content disk seats (unrecovered.Unopened u) =
    IsUnopened (content disk) (content u.disk) u.why × ((out : Result (List Note) OpenError) → ComesTo (content disk) out → Tells out u.why)
IsUnrecovered content disk seats (unrecovered.Unmade why) =
    (notes : List Note) × StandsForOnly notes (content disk) × IsUnmade seats (map entry_of notes) why

-- where a fault of the disk is told, the disk has counted one
abbrev pub HasFailedCause : {D : Type 0} → (D → ℕ) → D → RecoverError D → Type 0
HasFailedCause faults disk (unrecovered.Unopened u) = u.why ≡ open_fault.Failed → Rose (faults disk) (faults u.disk)
HasFailedCause faults disk (unrecovered.Unmade why) = Unit {0}

-- ---- after a crash

-- the seats begin with this history, or with that and one entry more
abbrev pub GoesOnFrom : List Entry → ℕ → List (Option Seated) → Type 0
GoesOnFrom history seats places = BeginWith history seats places ⊎ ((e : Entry) × BeginWith (history ++ e ∷ []) seats places)

-- the disk failed; or there was no memory; or of a history of so many entries the one behind it isn't made
abbrev pub IsExcused : {D : Type 0} → ℕ → RecoverError D → Type 0
IsExcused entries (unrecovered.Unopened u) = (u.why ≡ open_fault.Failed) ⊎ (u.why ≡ open_fault.Memory)
IsExcused entries (unrecovered.Unmade (unmade.Illegal at)) = at ≡ entries
IsExcused entries (unrecovered.Unmade unmade.Memory) = Unit {0}
