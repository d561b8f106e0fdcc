use Rattle.pm_pages.proofs.list.PageList.remove_where.Given as goal

abbrev pub ghost-remove_passing : goal.ghost-remove_passing
ghost-remove_passing g a = g.passes
