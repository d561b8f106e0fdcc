use Rattle.pm_pages.proofs.tested.own_passing.Given as goal

abbrev pub ghost-any_passes : goal.ghost-any_passes
ghost-any_passes g a = g.passes
