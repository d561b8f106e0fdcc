use Rattle.pm_pages.specs.Listed.{spared}
use Rattle.pm_pages.proofs.Changed.{set_edited}
use Rattle.pm_pages.proofs.tested.spare_at.Goals as goal

pub returns : goal.returns
returns g c =
    rw c.spare.ensures (set_edited (spared g.passes) c.args.pages.now.items c.args.k c.index_mut-page.result.now c.requires.1.1.0 c.index_mut-page.ensures.value)
