use Rattle.std.proofs.Common.{◌∙◌}
use Rattle.pm_pages.specs.Listed.{items_of}
use Rattle.pm_pages.proofs.Spots.{spot-get}
use Rattle.pm_pages.proofs.list.PageList.at.Goals as goal

pub returns : goal.returns
returns g c =
    rw (← c.self.view_is)
    (spot-get items_of c.self.inside.pages.items c.args.i _ _ (rw c.deref.ensures.value at c.find-spot.ensures.spot) ∙ (rw c.deref-3.ensures.value at c.item_at.ensures))
