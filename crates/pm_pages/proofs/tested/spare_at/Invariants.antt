use Rattle.pm_pages.proofs.tested.spare_at.Given as goal

abbrev pub ghost-spare : goal.ghost-spare
ghost-spare g a = g.passes
