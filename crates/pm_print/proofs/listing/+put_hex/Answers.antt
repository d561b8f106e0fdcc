-- The digits of a number of more than one are those of its sixteenth, and its last one.
use Rattle.std.proofs.Common.{arith}
use Rattle.std.proofs.lemmas.Grind.{common_steps}
use Rattle.pm_print.proofs.Hex.{hex_step}
use Rattle.pm_print.proofs.listing.+put_hex.Goals as goal

pub returns-in_err-put_hex : goal.returns-in_err-put_hex
returns-in_err-put_hex t c =
    let step = hex_step c.args.n c.if-n-lt16.false c.ranges.n.fits in rw step (grind (arith, common_steps))

pub returns : goal.returns
returns t c =
    let step = hex_step c.args.n c.if-n-lt16.false c.ranges.n.fits in rw step (grind (arith, common_steps))
