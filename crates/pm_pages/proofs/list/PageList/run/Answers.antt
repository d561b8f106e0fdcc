use Rattle.pm_pages.specs.Listed.{items_of}
use Rattle.pm_pages.proofs.Spots.{spot-run}
use Rattle.pm_pages.proofs.list.PageList.run.Goals as goal

pub returns-clause-items : goal.returns-clause-items
returns-clause-items g c =
    rw (← c.self.view_is)
    (spot-run items_of c.self.inside.pages.items c.args.i _ _ _ (rw c.deref.ensures.value at c.find-spot.ensures.spot) (rw c.deref-3.ensures.value at c.items_from.ensures))
