use Rattle.std.proofs.Common.{◌≡◌, ◌++◌, map, take}
use Rattle.pm_making.specs.Lines.{lines_of}
use Rattle.pm_making.proofs.writing.write_all.Given as goal

abbrev pub invariant-loop-item : goal.invariant-loop-item
invariant-loop-item g l = l.out.items ≡ l.fn.out.items ++ lines_of (map g.T.Item.made_by (take l.item-index l.items))
