-- The number has one digit less each time.
use Rattle.pm_print.proofs.listing.+put_hex.Given as goal

abbrev pub decreases-put_hex : goal.decreases-put_hex
decreases-put_hex l = l.n
