-- Why a journal wasn't read back. The project's own.
use Rattle.std.specs.Prelude.{◌≡◌, ◌≤◌, ℕ, List, Result, Err, OnOk}
use Rattle.pm_model.specs.Causes.{Rose}
use Rattle.pm_journal.specs.Reading.{IsDamagedAt}
use Rattle.pm_journal.specs.declared.reading.Unread.{Unread}
use Rattle.pm_journal.specs.declared.reading.Unread.TheVariants as unread

-- the disk's count of faults has risen where it failed
pub record HasReadCause {T : Type 0} (before now : ℕ) (result : Result T Unread) : Type 0 where
  pub later : before ≤ now
  pub failed : result ≡ Err unread.Failed → Rose before now
  pub kept : OnOk result (now ≡ before)

abbrev pub IsNoDamage : Unread → Type 0
IsNoDamage (unread.Damaged at) = ⊥
IsNoDamage why = Unit {0}

-- what is damaged is left as it is
abbrev pub LeavesDamaged : List ℕ → List ℕ → Unread → Type 0
LeavesDamaged old new (unread.Damaged at) = new ≡ old
LeavesDamaged old new why = Unit {0}

-- what is told to be damaged is so
abbrev pub IsDamaged : List ℕ → Unread → Type 0
IsDamaged content (unread.Damaged at) = IsDamagedAt at content
IsDamaged content why = Unit {0}
