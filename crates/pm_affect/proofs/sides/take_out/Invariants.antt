-- What is to be done to the lists that are left makes the whole.
use Rattle.std.proofs.Common.{◌≡◌, length, map}
use Rattle.pm_affect.specs.Lists.{AreListed}
use Rattle.pm_affect.specs.Puts.{with_put}
use Rattle.pm_affect.proofs.Edits.{mapped_from}
use Rattle.pm_affect.proofs.sides.take_out.Given as goal

abbrev pub invariant-loop-i : goal.invariant-loop-i
invariant-loop-i l = record {
  rest : mapped_from (with_put l.element 0) l.i l.items.items ≡ map (with_put l.element 0) l.initial.items.items;
  length : length l.items.items ≡ length l.initial.items.items;
  listed : AreListed l.items.items;
}
