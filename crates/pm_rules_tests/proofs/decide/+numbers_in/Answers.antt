use Rattle.pm_decide.proofs.Fakes.{numbers-step}
use Rattle.pm_rules_tests.proofs.decide.+numbers_in.Goals as goal

pub returns-in-len1-up : goal.returns-in-len1-up
returns-in-len1-up t c =
    numbers-step c.args.grantees.now c.args.k c.bit_in.result c.numbers_in.result c.grantee-item.result c.in-len1-up.len_at_least c.grantee-item.is
    c.bit_in.ensures c.numbers_in.ensures
