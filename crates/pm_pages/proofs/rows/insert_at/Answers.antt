use Rattle.std.proofs.lemmas.Result.{on_ok_weaker}
use Rattle.pm_pages.specs.Listed.{items_of, with_item}
use Rattle.pm_pages.proofs.Spots.{piece_read}
use Rattle.pm_pages.proofs.Changed.{set_edited}
use Rattle.pm_pages.proofs.rows.insert_at.Goals as goal

pub insert_into-requires : goal.insert_into-requires
insert_into-requires g c =
    rw (← piece_read items_of c.args.pages.now.items c.args.k c.index_mut-page.result.now c.requires.page c.index_mut-page.ensures.value) c.requires.place

pub returns-clause-pages : goal.returns-clause-pages
returns-clause-pages g c =
    on_ok_weaker c.insert_into.result (λ done. rw done
    (set_edited (with_item c.args.j c.args.item) c.args.pages.now.items c.args.k c.index_mut-page.result.now c.requires.page c.index_mut-page.ensures.value)) c.insert_into.ensures.page
