use Rattle.pm_pages.proofs.tested.remove_passing.Given as goal

abbrev pub ghost-spare_pages : goal.ghost-spare_pages
ghost-spare_pages g a = g.passes
