use Rattle.std.proofs.Common.{Ok, length, subst, take}
use Rattle.pm_journal.specs.Heads.{HasStood}
use Rattle.pm_journal.specs.Journals.{kept_in}
use Rattle.pm_journal.proofs.Unique.{one_outcome, unopened_tells}
use Rattle.pm_journal.proofs.journal.Journal.open.Goals as goal

pub returns-in-Ok-clause-exactly : goal.returns-in-Ok-clause-exactly
returns-in-Ok-clause-exactly g c tells out comes =
    let D = g.D.Disk in
    let kept = kept_in c.len-count.result (take c.in-Ok.end (D.content c.opened.new.disk)) in
    let stood : HasStood kept (D.content c.args.disk) = rw c.len-count.ensures (c.in-Ok.ensures.stood tells) in
    one_outcome (D.content c.args.disk) out (Ok kept) comes stood

pub returns-in-Err-clause-told : goal.returns-in-Err-clause-told
returns-in-Err-clause-told g c tells out comes =
    let D = g.D.Disk in
    unopened_tells (D.content c.args.disk) (D.content c.opened.new.disk) c.in-Err.why out (c.in-Err.ensures.unopened tells) comes
