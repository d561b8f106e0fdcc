use Rattle.std.proofs.Common.{◌∙◌, sym}
use Rattle.pm_by_name.proofs.Places.{places-none, places-step, places-whole}
use Rattle.pm_by_name.proofs.by_name.keyed_places.Goals as goal

pub loop-k-init : goal.loop-k-init
loop-k-init g c = c.new-map.ensures.empty ∙ sym (places-none g.T.Key.Ord.cmp g.T.ByName.key c.args.items.now)

pub loop-k-preserved : goal.loop-k-preserved
loop-k-preserved g c =
    places-step g.T.Key.Ord.cmp g.T.ByName.key c.args.items.now c.loop-k.k c.index-items-place.result c.key.result c.loop-k.map.entries
    c.insert.new.self.entries c.requires c.loop-k-test.true c.index-items-place.is c.key.ensures c.loop-k.invariant c.in_ok-insert.ensures.entries

pub returns : goal.returns
returns g c =
    places-whole g.T.Key.Ord.cmp g.T.ByName.key c.args.items.now c.loop-k.k c.loop-k.map.entries c.loop-k-test.false c.loop-k.invariant
