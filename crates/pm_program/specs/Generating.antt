-- What is written of the run of a generated policy.
use Rattle.std.specs.Prelude.{◌≡◌, ℕ, List, [], Option}
use Rattle.std.specs.Io.KnownBytes.{Appends}
use Rattle.pm_run.specs.Fronts.{IsProperFront}
use Rattle.pm_run.specs.declared.statuses.Status.{Status}
use Rattle.pm_run.specs.declared.statuses.Status.TheVariants.{Done, WriteFault, Memory}
use Rattle.pm_generator.specs.Generated.{generated}
use Rattle.pm_generator.specs.Summaries.{summary, summary_text}

-- what was written, by the status; there is no other
abbrev pub IsSummaryDue : ℕ → Status → List ℕ → Type 0
IsSummaryDue size Done written = written ≡ summary_text (summary (generated size))
IsSummaryDue size WriteFault written = IsProperFront written (summary_text (summary (generated size)))
IsSummaryDue size Memory written = written ≡ []
IsSummaryDue size _ written = ⊥

-- the requests of the generated policy of this size were run, and so much was written of what they came to
pub record Summed (size : ℕ) (taken grown : Option (List ℕ)) (status : Status) : Type 0 where
  pub written : List ℕ
  pub appended : Appends taken grown written
  pub due : IsSummaryDue size status written
