use Rattle.pm_kept.proofs.Numbers.{set-item, set-numbers}
use Rattle.pm_kept.proofs.places.set_at.Goals as goal

pub returns-clause-item : goal.returns-clause-item
returns-clause-item c = set-item c.args.items.now.items c.args.i c.args.at c.args.changed _ _ c.index_mut-item.ensures.value c.set_last.ensures

pub returns-clause-numbers : goal.returns-clause-numbers
returns-clause-numbers c =
    set-numbers c.args.items.now.items c.args.i c.args.at c.args.changed _ _ c.requires c.index_mut-item.ensures.value c.set_last.ensures
