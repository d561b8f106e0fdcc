use Rattle.std.proofs.Common.{◌∙◌, ap, arith}
use Rattle.pm_pages.specs.Listed.{edited, spared}
use Rattle.pm_pages.proofs.Changed.{edited-front}
use Rattle.pm_pages.proofs.tested.spare_pages.Goals as goal

pub loop-k-preserved : goal.loop-k-preserved
loop-k-preserved g c =
    c.spare_at.ensures ∙ ap (edited (spared g.passes) c.loop-k.k) c.loop-k.invariant
    ∙ edited-front (spared g.passes) c.args.pages.now.items c.loop-k.k (omega (arith, c.loop-k-test.true, c.len-k-end.ensures))
