use Rattle.std.proofs.Common.{◌≡◌, ◌-◌, drop}
use Rattle.pm_policy.specs.Order.{sorted}
use Rattle.pm_by_name.specs.Keyed.{goes_first, places_from}
use Rattle.pm_by_name.proofs.by_name.keyed_places.Given as goal

abbrev pub invariant-loop-k : goal.invariant-loop-k
invariant-loop-k g l = l.map.entries ≡ sorted (goes_first g.T.Key.Ord.cmp) (drop (l.count - l.k) (places_from g.T.ByName.key 0 l.items))
