use Rattle.std.proofs.Common.{sym}
use Rattle.pm_laws.proofs.Items.{each-at}
use Rattle.pm_drawing.specs.Gathered.{AreLive, is_own_pair, pair_named}
use Rattle.pm_drawing.proofs.Steps.{kept-step}
use Rattle.pm_drawing.proofs.assignments.own_assignments.Goals as goal

pub push_pair-requires-clause-from : goal.push_pair-requires-clause-from
push_pair-requires-clause-from c =
    (each-at (AreLive c.args.elements.now.elements) c.args.pairs.now c.pair-item.result c.requires (c.loop-pair.pair-index, c.loop-pair-test.true, sym c.pair-item.is)).0

pub push_pair-requires-clause-to : goal.push_pair-requires-clause-to
push_pair-requires-clause-to c =
    (each-at (AreLive c.args.elements.now.elements) c.args.pairs.now c.pair-item.result c.requires (c.loop-pair.pair-index, c.loop-pair-test.true, sym c.pair-item.is)).1

pub loop-pair-preserved : goal.loop-pair-preserved
loop-pair-preserved c =
    kept-step c.args.pairs.now c.loop-pair.pair-index c.pair-item.result (pair_named c.args.elements.now.elements) is_own_pair c.loop-pair.list.items
    c.push_pair.new.list.items c.loop-pair-test.true c.pair-item.is c.loop-pair.invariant c.in_ok-push_pair.ensures
