use Rattle.std.proofs.Common.{refl}
use Rattle.pm_pages.specs.Listed.{items_of}
use Rattle.pm_pages.proofs.Spots.{piece_read}
use Rattle.pm_pages.proofs.rows.split_at.Goals as goal

pub halves_with-requires : goal.halves_with-requires
halves_with-requires g c =
    rw (c.items.ensures, ← piece_read items_of c.args.pages.now.items c.args.k c.index-page.result.now c.requires.page c.index-page.ensures) c.requires.place

pub returns-clause-pages : goal.returns-clause-pages
returns-clause-pages g c = record {
  head = c.in_ok-first.first;
  tail = c.in_ok-first.second;
  halves = rw (c.in_ok-first.ensures, c.items.ensures, ← piece_read items_of c.args.pages.now.items c.args.k c.index-page.result.now c.requires.page c.index-page.ensures) refl;
  pages = rw (c.in_ok-insert.ensures.items, c.in_ok-head.ensures, c.in_ok-tail.ensures) refl;
}
