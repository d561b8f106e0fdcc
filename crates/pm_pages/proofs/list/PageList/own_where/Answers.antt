use Rattle.std.proofs.Common.{◌∙◌, ap, sym, length}
use Rattle.std.proofs.lemmas.Result.{on_ok_weaker}
use Rattle.pm_pages.specs.Listed.{items_of}
use Rattle.pm_pages.proofs.Spots.{same-starts, same-listed}
use Rattle.pm_pages.proofs.Passing.{own-ready}
use Rattle.pm_pages.proofs.list.PageList.own_where.Goals as goal

pub invariant_of-self : goal.invariant_of-self
invariant_of-self g c =
    let old = c.self.inside.pages.items in
    let new = c.own_pages.new.pages.items in
    let e = c.own_pages.ensures in
    record {
      starts = c.self.invariant.starts ∙ sym (same-starts items_of 0 new old e.items);
      counted = c.self.invariant.counted ∙ ap length (sym (same-listed items_of new old e.items));
      alone = λ a. e.stays (c.self.invariant.alone a);
    }

pub returns-clause-items : goal.returns-clause-items
returns-clause-items g c = rw (← c.self.view_is) (same-listed items_of c.own_pages.new.pages.items c.self.inside.pages.items c.own_pages.ensures.items)

pub returns-clause-ok : goal.returns-clause-ok
returns-clause-ok g c = on_ok_weaker c.own_pages.result (λ ready. own-ready g.passes c.own_pages.new.pages.items ready) c.own_pages.ensures.ready
