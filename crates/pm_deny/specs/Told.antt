-- The errors of the list as a change tells them.
use Rattle.pm_deny.specs.declared.errors.DenyError.{DenyError}
use Rattle.pm_deny.specs.declared.errors.DenyError.TheVariants as error
use Rattle.pm_model.specs.declared.replies.ChangeError.{ChangeError}
use Rattle.pm_model.specs.declared.replies.ChangeError.TheVariants.{Refused, Memory}
use Rattle.pm_model.specs.declared.replies.Refusal.TheVariants.{NameTaken, EmptyRange, Absent, Full}
use Rattle.pm_model.specs.declared.replies.Table.TheVariants.{Prohibitions}

abbrev pub told : DenyError → ChangeError
told error.NameTaken = Refused NameTaken
told error.EmptyRange = Refused EmptyRange
told error.Full = Refused (Full Prohibitions)
told error.Absent = Refused Absent
told error.Memory = Memory
