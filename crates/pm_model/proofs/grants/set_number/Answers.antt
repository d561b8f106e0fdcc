use Rattle.std.proofs.Common.{sym}
use Rattle.pm_model.proofs.Places.{number_set}
use Rattle.pm_model.proofs.grants.set_number.Goals as goal

pub returns : goal.returns
returns c = number_set c.args.place.now.k c.args.place.now.word c.args.number c.requires
