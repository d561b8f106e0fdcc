use Rattle.pm_deny.specs.Ended.{is_on}
use Rattle.pm_deny.proofs.items.drop_processes.Given as goal

abbrev pub ghost-remove_where : goal.ghost-remove_where
ghost-remove_where a = is_on a.test.now.0.now
