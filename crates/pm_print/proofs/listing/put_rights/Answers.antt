-- A set of rights has at most one digit for four rights.
use Rattle.std.proofs.Common.{arith}
use Rattle.std.proofs.lemmas.Grind.{common_steps}
use Rattle.pm_print.proofs.Hex.{hex_length, hex_quoted}
use Rattle.pm_print.proofs.listing.put_rights.Goals as goal

pub returns-in_err-put_hex : goal.returns-in_err-put_hex
returns-in_err-put_hex c =
    let short = hex_length c.args.rights c.ranges.rights.fits in rw (hex_quoted c.args.rights) (grind (arith, common_steps))

pub returns : goal.returns
returns c =
    let short = hex_length c.args.rights c.ranges.rights.fits in rw (hex_quoted c.args.rights) (grind (arith, common_steps))
