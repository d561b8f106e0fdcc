-- The errors of the table as a change tells them.
use Rattle.pm_assoc.specs.declared.errors.AssocError.{AssocError}
use Rattle.pm_assoc.specs.declared.errors.AssocError.TheVariants as error
use Rattle.pm_model.specs.declared.replies.ChangeError.{ChangeError}
use Rattle.pm_model.specs.declared.replies.ChangeError.TheVariants.{Refused, Memory}
use Rattle.pm_model.specs.declared.replies.Refusal.TheVariants.{Already, Absent, Full}
use Rattle.pm_model.specs.declared.replies.Table.TheVariants.{Associations}

abbrev pub told : AssocError → ChangeError
told error.Already = Refused Already
told error.Absent = Refused Absent
told error.Full = Refused (Full Associations)
told error.Memory = Memory
