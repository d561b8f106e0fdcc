use Rattle.std.proofs.Common.{sym}
use Rattle.pm_model.proofs.Places.{number_cleared}
use Rattle.pm_model.proofs.grants.clear_number.Goals as goal

pub returns-then-place-number : goal.returns-then-place-number
returns-then-place-number c = number_cleared c.args.place.now.k c.args.place.now.word c.args.number (sym c.if-place-number.true)
