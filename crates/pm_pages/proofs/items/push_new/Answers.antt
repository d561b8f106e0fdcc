use Rattle.std.proofs.Common.{◌≡◌, ◌+◌, ◌∙◌, ◌++◌, ◌∷◌, [], length, ap, arith, sym}
use Rattle.pm_pages.specs.Listed.{items_of, starts_from, listed}
use Rattle.pm_pages.specs.declared.pages.Page.TheVariants.{Own}
use Rattle.pm_pages.proofs.Spots.{starts-more}
use Rattle.pm_pages.proofs.Owning.{keeps-page_more, own-page_more}
use Rattle.pm_pages.proofs.items.push_new.Goals as goal

pub returns-clause-placed : goal.returns-clause-placed
returns-clause-placed g c =
    let here : 0 + length (listed c.args.pages.now.items) ≡ c.args.count = omega (arith, c.requires.count) in
    rw (c.push_reserved.ensures.items, c.reserve.ensures.items, c.requires.placed, c.in_ok-push_page.ensures.ok)
    (sym (starts-more items_of 0 c.args.pages.now.items (Own (c.args.item ∷ [])) ∙ ap (λ n. starts_from items_of 0 c.args.pages.now.items ++ n ∷ []) here))

pub returns-clause-keeps : goal.returns-clause-keeps
returns-clause-keeps g c = λ i own. rw c.in_ok-push_page.ensures.ok (keeps-page_more c.args.pages.now.items (Own (c.args.item ∷ [])) i own)

pub returns-clause-own : goal.returns-clause-own
returns-clause-own g c = rw c.in_ok-push_page.ensures.ok (own-page_more c.args.pages.now.items c.args.item)
