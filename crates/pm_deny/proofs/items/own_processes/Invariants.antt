use Rattle.pm_deny.specs.Ended.{is_on}
use Rattle.pm_deny.proofs.items.own_processes.Given as goal

abbrev pub ghost-own_where : goal.ghost-own_where
ghost-own_where a = is_on a.test.now.0.now
