use Rattle.std.proofs.Common.{sym, map, take}
use Rattle.std.proofs.lemmas.List.{append-nil}
use Rattle.pm_making.specs.Lines.{lines_of}
use Rattle.pm_making.proofs.Written.{front_then, lines-step}
use Rattle.pm_making.proofs.writing.write_all.Goals as goal

pub loop-item-init : goal.loop-item-init
loop-item-init g c = sym (append-nil c.args.out.now.items)

pub returns-in_err-write-clause-front : goal.returns-in_err-write-clause-front
returns-in_err-write-clause-front g c =
    front_then c.args.out.now.items (lines_of (map g.T.Item.made_by (take c.loop-item.item-index c.args.items.now))) c.loop-item.out.items c.write.new.out.items
    c.loop-item.invariant c.write.ensures.front

pub loop-item-preserved : goal.loop-item-preserved
loop-item-preserved g c =
    lines-step g.T.Item.made_by c.args.items.now c.loop-item.item-index c.item-item.result c.args.out.now.items c.loop-item.out.items c.write.new.out.items
    c.loop-item-test.true c.item-item.is c.loop-item.invariant c.in_ok-write.ensures.ok
