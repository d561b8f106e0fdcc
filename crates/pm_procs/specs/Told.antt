-- The errors of the table as a change tells them.
use Rattle.pm_procs.specs.declared.errors.ProcsError.{ProcsError}
use Rattle.pm_procs.specs.declared.errors.ProcsError.TheVariants as error
use Rattle.pm_model.specs.declared.replies.ChangeError.{ChangeError}
use Rattle.pm_model.specs.declared.replies.ChangeError.TheVariants.{Refused, Memory}
use Rattle.pm_model.specs.declared.replies.Refusal.{Refusal}
use Rattle.pm_model.specs.declared.replies.Refusal.TheVariants.{Builtin, Full}

-- `missing` says that there is no such session, or no such process
abbrev pub told : Refusal → ProcsError → ChangeError
told missing (error.Full table) = Refused (Full table)
told missing error.Absent = Refused missing
told missing error.Builtin = Refused Builtin
told missing error.Memory = Memory
