use Rattle.std.proofs.Common.{◌∙◌, ap, sym, length, arith}
use Rattle.pm_pages.specs.Listed.{items_of}
use Rattle.pm_pages.proofs.Spots.{same-starts, same-listed}
use Rattle.pm_pages.proofs.list.PageList.copy.Goals as goal

pub invariant_of-result : goal.invariant_of-result
invariant_of-result g c =
    let e = rw c.deref.ensures.value at c.in_ok-copy_pages.ensures in
    let old = c.self.inside.pages.items in
    let new = c.in_ok-copy_pages.field-0.items in
    record {
      starts = c.in_ok-from_slice.ensures.items ∙ c.deref-2.ensures.value ∙ c.self.invariant.starts ∙ sym (same-starts items_of 0 new old e);
      counted = c.self.invariant.counted ∙ ap length (sym (same-listed items_of new old e));
      alone = λ no. absurd (grind (arith, no));
    }

pub returns-clause-items : goal.returns-clause-items
returns-clause-items g c =
    let e = rw c.deref.ensures.value at c.in_ok-copy_pages.ensures in
    rw (← c.self.view_is) (same-listed items_of c.in_ok-copy_pages.field-0.items c.self.inside.pages.items e)
