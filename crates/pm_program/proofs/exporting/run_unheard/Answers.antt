use Rattle.std.proofs.Common.{◌≡◌, Err, ap}
use Rattle.pm_program.proofs.Exported.{never_rose, unreached}
use Rattle.pm_run.specs.declared.statuses.Status.TheVariants.{WriteFault}
use Rattle.pm_program.proofs.exporting.run_unheard.Goals as goal

pub returns-in_default : goal.returns-in_default
returns-in_default g c =
    let ended = c.run_on.ensures.ended in
    let calm : c.run_on.result ≡ WriteFault → ⊥ = λ is. never_rose (ended.write is) in
    record {
      ok = tt;
      end = tt;
      err = λ taken. unreached _ _ _ taken c.run_on.result ended c.in_default.not-Done calm;
      read = λ is. ended.read (cc is);
      read_kept = λ other. ended.read_kept (λ is. other (ap Err is));
      write = λ is. calm (cc is);
    }
