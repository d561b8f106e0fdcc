use Rattle.std.proofs.Common.{◌≡◌, rules, arith}
use Rattle.pm_publish.proofs.Longer.{so_many_begins}
use Rattle.pm_publish_tests.proofs.publish.publish_length.Goals as goal

pub publish-requires : goal.publish-requires
publish-requires g c =
    let size : c.in_ok-next.next.0 ≡ c.args.length = search rules in
    record { extends = so_many_begins _ _ (omega (arith, size, c.requires)) }
