-- The errors of the table as a change tells them.
use Rattle.pm_kept.specs.declared.errors.KeptError.{KeptError}
use Rattle.pm_kept.specs.declared.errors.KeptError.TheVariants as error
use Rattle.pm_model.specs.declared.replies.ChangeError.{ChangeError}
use Rattle.pm_model.specs.declared.replies.ChangeError.TheVariants.{Refused, Memory}
use Rattle.pm_model.specs.declared.replies.Refusal.TheVariants.{Already, Full}
use Rattle.pm_model.specs.declared.replies.Table.TheVariants.{Reviews}

abbrev pub told : KeptError → ChangeError
told error.Already = Refused Already
told error.Full = Refused (Full Reviews)
told error.Memory = Memory
