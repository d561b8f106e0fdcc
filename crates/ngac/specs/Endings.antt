-- How a server ends that comes back. The project's own.
use Rattle.std.specs.Prelude.{Result, Ok, Err}
use Rattle.pm_run.specs.declared.statuses.Status.{Status}
use Rattle.pm_run.specs.declared.statuses.Status.TheVariants as status
use Rattle.pm_server.specs.declared.errors.OpenError.{OpenError}
use Rattle.pm_server.specs.declared.errors.OpenError.TheVariants as unserved
use Rattle.pm_house.specs.declared.restored.RestoreError.{RestoreError}
use Rattle.pm_house.specs.declared.restored.RestoreError.TheVariants as unmade
use Rattle.pm_journal.specs.declared.opened.OpenError.{OpenError as OpenFault}
use Rattle.pm_journal.specs.declared.opened.OpenError.TheVariants as open_fault
use Rattle.pm_recovery.specs.declared.recovering.RecoverError.{RecoverError}
use Rattle.pm_recovery.specs.declared.recovering.RecoverError.TheVariants as unrecovered

-- one that had its port and its workers couldn't go on; one that hadn't was refused memory, or something else by the system
abbrev pub status_after : {T : Type 0} → Result T OpenError → Status
status_after (Ok served) = status.ServeFault
status_after (Err unserved.Memory) = status.Memory
status_after (Err (unserved.System why)) = status.ListenFault

-- a server without a journal ends so, and never otherwise
abbrev pub IsServerEnd : Status → Type 0
IsServerEnd status.Memory = Unit {0}
IsServerEnd status.ListenFault = Unit {0}
IsServerEnd status.ServeFault = Unit {0}
IsServerEnd _ = ⊥

-- one with a journal ends so, and never otherwise
abbrev pub IsJournalEnd : Status → Type 0
IsJournalEnd status.JournalFault = Unit {0}
IsJournalEnd status.NotJournal = Unit {0}
IsJournalEnd (status.Damaged at) = Unit {0}
IsJournalEnd (status.Illegal at) = Unit {0}
IsJournalEnd other = IsServerEnd other

-- where no house goes on from a journal: by why the bytes aren't opened, or why their entries aren't made
abbrev pub status_unopened : OpenFault → Status
status_unopened open_fault.NotJournal = status.NotJournal
status_unopened (open_fault.Damaged at) = status.Damaged at
status_unopened open_fault.Failed = status.JournalFault
status_unopened open_fault.Memory = status.Memory

abbrev pub status_unmade : RestoreError → Status
status_unmade (unmade.Illegal at) = status.Illegal at
status_unmade unmade.Memory = status.Memory

abbrev pub status_unrecovered : {D : Type 0} → RecoverError D → Status
status_unrecovered (unrecovered.Unopened u) = status_unopened u.why
status_unrecovered (unrecovered.Unmade why) = status_unmade why
