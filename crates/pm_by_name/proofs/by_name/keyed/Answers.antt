use Rattle.std.proofs.Common.{◌∙◌, sym}
use Rattle.pm_by_name.proofs.Keyed.{entries-none, entries-step, entries-whole}
use Rattle.pm_by_name.proofs.by_name.keyed.Goals as goal

pub loop-k-init : goal.loop-k-init
loop-k-init g c = c.new-map.ensures.empty ∙ sym (entries-none g.K.Ord.cmp c.args.entries.now)

pub loop-k-preserved : goal.loop-k-preserved
loop-k-preserved g c =
    entries-step g.K.Ord.cmp c.args.entries.now c.loop-k.k c.index-entries-count.result c.loop-k.map.entries c.insert.new.self.entries
    c.requires c.loop-k-test.true c.index-entries-count.is c.loop-k.invariant c.in_ok-insert.ensures.entries

pub returns : goal.returns
returns g c = entries-whole g.K.Ord.cmp c.args.entries.now c.loop-k.k c.loop-k.map.entries c.loop-k-test.false c.loop-k.invariant
