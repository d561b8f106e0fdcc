use Rattle.pm_pages.specs.Listed.{items_of}
use Rattle.pm_pages.proofs.Changed.{map-set}
use Rattle.pm_pages.proofs.rows.share_at.Goals as goal

pub returns : goal.returns
returns g c =
    map-set items_of c.args.pages.now.items c.args.k c.index_mut-page.result.now c.share.new.page c.requires c.index_mut-page.ensures.value c.share.ensures
