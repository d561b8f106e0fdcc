use Rattle.pm_decide.proofs.Fakes.{containers-step}
use Rattle.pm_rules_tests.proofs.decide.+containers_in.Goals as goal

pub returns-then-is_contained : goal.returns-then-is_contained
returns-then-is_contained t c =
    containers-step c.args.pairs.now c.args.x c.args.k c.containers_in-word.result c.containers_in.result c.in-len1-up.len_at_least
    c.if-is_contained.ensures c.containers_in-word.ensures c.containers_in.ensures
