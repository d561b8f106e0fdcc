-- A page behind those without rows.
use Rattle.std.proofs.Common.{◌∙◌, arith}
use Rattle.pm_reach.proofs.Pages.{pushed, page_empty}
use Rattle.pm_reach.proofs.table.push_page.Goals as goal

pub loop-pages-preserved : goal.loop-pages-preserved
loop-pages-preserved c = record {
  behind = rw c.push_reserved.ensures.len (omega (arith, c.loop-pages-test.true, c.len.ensures));
  room = rw c.push_reserved.ensures.capacity c.loop-pages.invariant.room;
  same = λ m. rw c.push_reserved.ensures.items (page_empty c.loop-pages.pages.items m ∙ c.loop-pages.invariant.same m);
}

pub returns : goal.returns
returns c =
    pushed c.args.pages.now.items c.loop-pages.pages.items c.push_reserved-2.new.self.items c.args.k c.args.page
    (omega (arith, c.loop-pages.invariant.behind, c.loop-pages-test.false, c.loop-pages.pages.ok.0))
    c.loop-pages.invariant.same c.push_reserved-2.ensures.items
