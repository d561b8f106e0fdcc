-- The errors of the table as a change tells them.
use Rattle.pm_rights.specs.declared.errors.RightsError.{RightsError}
use Rattle.pm_rights.specs.declared.errors.RightsError.TheVariants as error
use Rattle.pm_model.specs.declared.replies.ChangeError.{ChangeError}
use Rattle.pm_model.specs.declared.replies.ChangeError.TheVariants.{Refused, Memory}
use Rattle.pm_model.specs.declared.replies.Refusal.TheVariants.{NameTaken, Full}
use Rattle.pm_model.specs.declared.replies.Table.TheVariants.{Rights}

abbrev pub told : RightsError → ChangeError
told error.NameTaken = Refused NameTaken
told error.Full = Refused (Full Rights)
told error.Memory = Memory
