use Rattle.pm_pages.proofs.pages.spare.Given as goal

abbrev pub ghost-remove_where : goal.ghost-remove_where
ghost-remove_where g a = g.passes
