use Rattle.std.proofs.Common.{◌≡◌, map, length, take, true}
use Rattle.std.specs.List.{list_all}
use Rattle.pm_pages.specs.Listed.{items_of, all_own, is_ready, KeepsOwn}
use Rattle.pm_pages.proofs.tested.own_pages.Given as goal

abbrev pub ghost-own_passing : goal.ghost-own_passing
ghost-own_passing g a = g.passes

abbrev pub invariant-loop-k : goal.invariant-loop-k
invariant-loop-k g l = record {
  items : map items_of l.pages.items ≡ map items_of l.initial.pages.items;
  places : length l.pages.items ≡ length l.initial.pages.items;
  keeps : KeepsOwn l.initial.pages.items l.pages.items;
  before : list_all (is_ready g.passes) (take l.k l.pages.items) ≡ true;
  own : all_own l.initial.pages.items ≡ true → all_own l.pages.items ≡ true;
}
