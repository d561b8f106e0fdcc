-- What is left to put makes the whole.
use Rattle.std.proofs.Common.{◌≡◌, drop}
use Rattle.pm_affect.specs.Lists.{AreListed}
use Rattle.pm_affect.specs.Puts.{put_across}
use Rattle.pm_affect.proofs.sides.put_across.Given as goal

abbrev pub invariant-loop-n : goal.invariant-loop-n
invariant-loop-n l = record {
  rest : put_across l.user (drop l.n l.row) l.items.items ≡ put_across l.user l.row l.fn.items.items;
  listed : AreListed l.items.items;
}
