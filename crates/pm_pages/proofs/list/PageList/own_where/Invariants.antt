use Rattle.pm_pages.proofs.list.PageList.own_where.Given as goal

abbrev pub ghost-own_pages : goal.ghost-own_pages
ghost-own_pages g a = g.passes
