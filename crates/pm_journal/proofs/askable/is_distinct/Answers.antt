use Rattle.std.proofs.Common.{◌≡◌, true, false, take, bytes_eq, arith}
use Rattle.std.specs.List.{list_any}
use Rattle.pm_journal.proofs.ItemByItem.{distinct_next, not_distinct}
use Rattle.pm_journal.proofs.askable.is_distinct.Goals as goal

pub loop-i-preserved : goal.loop-i-preserved
loop-i-preserved c =
    let new : list_any (bytes_eq c.index-names-i.result) (take c.loop-i.i c.args.names.now) ≡ false = cc in
    distinct_next c.args.names.now c.loop-i.i c.index-names-i.result (omega (arith, c.loop-i-test.true)) c.index-names-i.is c.loop-i.invariant new

pub returns-then-contains-clause-all : goal.returns-then-contains-clause-all
returns-then-contains-clause-all c once =
    let seen : list_any (bytes_eq c.index-names-i.result) (take c.loop-i.i c.args.names.now) ≡ true = cc in
    absurd (not_distinct c.args.names.now c.loop-i.i c.index-names-i.result (omega (arith, c.loop-i-test.true)) c.index-names-i.is c.loop-i.invariant seen once)
