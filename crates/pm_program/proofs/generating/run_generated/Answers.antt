use Rattle.std.proofs.Common.{◌∙◌}
use Rattle.pm_program.proofs.Summing.{part_summed}
use Rattle.pm_program.proofs.generating.run_generated.Goals as goal

pub returns-clause-summed : goal.returns-clause-summed
returns-clause-summed g c =
    part_summed c.args.size _ _ c.deref.result.now (c.deref.ensures.value ∙ c.in-Ok.ensures) c.in-Err.ensures.err
