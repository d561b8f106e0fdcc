-- What is left to put makes the whole; and so far nothing is changed, or that is known.
use Rattle.std.proofs.Common.{◌≡◌, false, drop}
use Rattle.pm_affect.specs.Lists.{IsInOrder}
use Rattle.pm_affect.specs.Puts.{put_all}
use Rattle.pm_affect.proofs.pairs.Pairs.put_each.Given as goal

abbrev pub invariant-loop-n : goal.invariant-loop-n
invariant-loop-n l = record {
  rest : put_all (drop l.n l.row) l.self ≡ put_all l.row l.fn.self;
  order : IsInOrder 0 l.self;
  same : l.changed ≡ false → l.self ≡ l.fn.self;
}
