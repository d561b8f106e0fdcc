use Rattle.std.proofs.Common.{◌-◌, slice_index}
use Rattle.pm_pages.specs.Listed.{items_of}
use Rattle.pm_pages.proofs.Spots.{spot-of, spot-within, piece_within, some-starts, first-start}
use Rattle.pm_pages.proofs.items.find.Goals as goal

pub page_of-page-requires-clause-some : goal.page_of-page-requires-clause-some
page_of-page-requires-clause-some g c = rw c.requires.placed (some-starts items_of c.args.pages.now c.args.i c.requires.within)

pub page_of-page-requires-clause-first : goal.page_of-page-requires-clause-first
page_of-page-requires-clause-first g c = rw c.requires.placed (first-start items_of c.args.pages.now c.args.i)

pub returns-clause-spot : goal.returns-clause-spot
returns-clause-spot g c = spot-of items_of _ _ c.args.i c.page_of-page.result c.requires.placed c.page_of-page.ensures c.requires.within

pub returns-clause-page : goal.returns-clause-page
returns-clause-page g c =
    piece_within items_of c.args.pages.now c.page_of-page.result (c.args.i - slice_index c.args.starts.now c.page_of-page.result)
    (spot-within items_of c.args.pages.now c.args.i _ _ (spot-of items_of c.args.pages.now _ c.args.i c.page_of-page.result c.requires.placed c.page_of-page.ensures c.requires.within))

pub returns-clause-offset : goal.returns-clause-offset
returns-clause-offset g c =
    spot-within items_of c.args.pages.now c.args.i _ _ (spot-of items_of c.args.pages.now _ c.args.i c.page_of-page.result c.requires.placed c.page_of-page.ensures c.requires.within)
