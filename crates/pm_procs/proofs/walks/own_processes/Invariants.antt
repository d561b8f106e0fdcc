use Rattle.pm_model.specs.Sessions.{is_of_session}
use Rattle.pm_procs.proofs.walks.own_processes.Given as goal

abbrev pub ghost-own_where : goal.ghost-own_where
ghost-own_where a = is_of_session a.test.now.0.now
