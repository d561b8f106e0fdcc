use Rattle.std.proofs.Common.{◌∙◌, ap, sym, length, arith}
use Rattle.pm_pages.specs.Listed.{items_of}
use Rattle.pm_pages.proofs.Spots.{same-starts, same-listed}
use Rattle.pm_pages.proofs.list.PageList.share.Goals as goal

pub invariant_of-self : goal.invariant_of-self
invariant_of-self g c =
    let old = c.self.inside.pages.items in
    let new = c.share_pages.new.pages.items in
    record {
      starts = c.self.invariant.starts ∙ sym (same-starts items_of 0 new old c.share_pages.ensures);
      counted = c.self.invariant.counted ∙ ap length (sym (same-listed items_of new old c.share_pages.ensures));
      alone = λ no. absurd (grind (arith, no));
    }

pub returns-clause-items : goal.returns-clause-items
returns-clause-items g c = rw (← c.self.view_is) (same-listed items_of c.share_pages.new.pages.items c.self.inside.pages.items c.share_pages.ensures)
