use Rattle.std.proofs.Common.{arith}
use Rattle.pm_print.proofs.ItemTexts.{counted}
use Rattle.pm_print.proofs.print.items_in.Goals as goal

pub returns-in-Survey : goal.returns-in-Survey
returns-in-Survey c =
    let is = c.in-Survey.is in
    let long = counted c.in-Survey.users c.in-Survey.counts in
    rw is (omega (arith, long, c.len.ensures, c.len-in-Survey.ensures, c.min.ensures))
