use Rattle.std.proofs.Common.{◌==◌, ◌%◌}
use Rattle.pm_graph_tests.proofs.pages.remove_rest.Given as goal

abbrev pub ghost-own_where : goal.ghost-own_where
ghost-own_where a = λ n. n % 3 == a.test.now.0.now

abbrev pub ghost-remove_where : goal.ghost-remove_where
ghost-remove_where a = λ n. n % 3 == a.test.now.0.now
