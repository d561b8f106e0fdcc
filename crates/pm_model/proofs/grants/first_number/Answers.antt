use Rattle.std.proofs.Common.{◌≡◌, ◌==◌, ◌||◌, Bool, true, false, refl}
use Rattle.pm_model.proofs.Places.{none_in}
use Rattle.pm_model.proofs.grants.first_number.Goals as goal

or_false : (b : Bool) → (b || false) ≡ b
or_false true = refl
or_false false = refl

pub returns : goal.returns
returns c n = rw (c.set_number.ensures n, none_in _ n) (or_false (n == c.args.number))
