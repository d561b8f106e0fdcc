use Rattle.pm_model.specs.Sessions.{is_of_session}
use Rattle.pm_procs.proofs.walks.remove_processes.Given as goal

abbrev pub ghost-remove_where : goal.ghost-remove_where
ghost-remove_where a = is_of_session a.test.now.0.now
