use Rattle.std.proofs.Common.{◌≡◌, map, take}
use Rattle.pm_policy.specs.Sound.{AreOnce}
use Rattle.pm_sound.proofs.once.check_once.Given as goal

abbrev pub invariant-loop-item : goal.invariant-loop-item
invariant-loop-item g l =
    (l.seen.keys ≡ map g.T.Keyed.key (take l.item-index l.items))
    × AreOnce (λ x y. g.T.Key.PartialEq.eq (g.T.Keyed.key x) (g.T.Keyed.key y)) (take l.item-index l.items)
