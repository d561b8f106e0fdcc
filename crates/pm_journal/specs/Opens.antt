-- Why a journal wasn't opened. The project's own.
use Rattle.std.specs.Prelude.{◌≡◌, ◌+◌, ◌<◌, ◌≤◌, ℕ, List, Result, Ok, Err}
use Rattle.pm_model.specs.Causes.{Rose}
use Rattle.pm_journal.specs.Notes.{Note}
use Rattle.pm_journal.specs.Heads.{HasStood, IsNoJournal}
use Rattle.pm_journal.specs.Reading.{IsDamagedAt}
use Rattle.pm_journal.specs.declared.reading.Unread.{Unread}
use Rattle.pm_journal.specs.declared.reading.Unread.TheVariants as unread
use Rattle.pm_journal.specs.declared.opened.OpenError.{OpenError}
use Rattle.pm_journal.specs.declared.opened.OpenError.TheVariants as open_fault

abbrev pub open_error : Unread → OpenError
open_error unread.Failed = open_fault.Failed
open_error unread.Memory = open_fault.Memory
open_error (unread.Damaged at) = open_fault.Damaged at

-- what is no journal, or damaged, is so, and is left as it is
abbrev pub IsUnopened : List ℕ → List ℕ → OpenError → Type 0
IsUnopened old new open_fault.NotJournal = IsNoJournal old × (new ≡ old)
IsUnopened old new (open_fault.Damaged at) = IsDamagedAt at old × (new ≡ old)
IsUnopened old new why = Unit {0}

-- what the bytes of a file come to: the notes that they stand for, or why they stand for none. Of all answers to an opening those for
-- want of memory and by a fault of the disk say nothing of the bytes.
abbrev pub ComesTo : List ℕ → Result (List Note) OpenError → Type 0
ComesTo content (Ok notes) = HasStood notes content
ComesTo content (Err open_fault.NotJournal) = IsNoJournal content
ComesTo content (Err (open_fault.Damaged at)) = IsDamagedAt at content
ComesTo content (Err open_fault.Failed) = ⊥
ComesTo content (Err open_fault.Memory) = ⊥

-- an answer tells what the bytes come to, or that there was no memory, or that the disk failed
abbrev pub Tells : Result (List Note) OpenError → OpenError → Type 0
Tells out open_fault.Failed = Unit {0}
Tells out open_fault.Memory = Unit {0}
Tells out why = out ≡ Err why

-- from the first sync of the run on, where that was done, a crash leaves a file that has P
abbrev pub LeavesSynced : {D : Type 0} → (D → ℕ) → (D → ℕ → List ℕ → Type 0) → D → D → (List ℕ → Type 0) → Type 0
LeavesSynced moment left_since old new P = moment old < moment new → (c : List ℕ) → left_since new (moment old + 1) c → P c

pub record HasOpenCause {T : Type 0} (before now : ℕ) (result : Result T OpenError) : Type 0 where
  pub later : before ≤ now
  pub failed : result ≡ Err open_fault.Failed → Rose before now
