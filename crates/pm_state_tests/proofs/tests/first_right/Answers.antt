use Rattle.std.proofs.Common.{sym, ◌∙◌}
use Rattle.std.proofs.Math.Pow.{pow-lt}
use Rattle.std.proofs.lemmas.Option.{slice_get_within}
use Rattle.pm_state_tests.proofs.tests.first_right.Goals as goal

pub returns : goal.returns
returns g c = pow-lt (slice_get_within c.args.graph.now.rights 0 c.expect-name.result (sym c.right_name.ensures ∙ c.expect-name.ensures))
