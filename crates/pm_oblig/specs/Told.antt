-- The errors of the list as a change tells them.
use Rattle.pm_oblig.specs.declared.errors.ObligError.{ObligError}
use Rattle.pm_oblig.specs.declared.errors.ObligError.TheVariants as error
use Rattle.pm_model.specs.declared.replies.ChangeError.{ChangeError}
use Rattle.pm_model.specs.declared.replies.ChangeError.TheVariants.{Refused, Memory}
use Rattle.pm_model.specs.declared.replies.Refusal.TheVariants.{NameTaken, Absent, Full}
use Rattle.pm_model.specs.declared.replies.Table.TheVariants.{Obligations}

abbrev pub told : ObligError → ChangeError
told error.NameTaken = Refused NameTaken
told error.Full = Refused (Full Obligations)
told error.Absent = Refused Absent
told error.Memory = Memory
