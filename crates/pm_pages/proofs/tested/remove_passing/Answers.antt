use Rattle.pm_pages.proofs.Passing.{listed-passed, length-passed, own-passed}
use Rattle.pm_pages.proofs.tested.remove_passing.Goals as goal

pub returns-clause-items : goal.returns-clause-items
returns-clause-items g c = rw (c.drop_all_empty.ensures, c.spare_pages.ensures) (listed-passed g.passes c.args.pages.now.items c.requires.1.1.1.1)

pub returns-clause-pages : goal.returns-clause-pages
returns-clause-pages g c = rw (c.drop_all_empty.ensures, c.spare_pages.ensures) (length-passed g.passes c.args.pages.now.items)

pub returns-clause-stays : goal.returns-clause-stays
returns-clause-stays g c = λ all. rw (c.drop_all_empty.ensures, c.spare_pages.ensures) (own-passed g.passes c.args.pages.now.items all)
