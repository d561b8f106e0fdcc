-- What is written of the policy document of the machine that an input makes.
use Rattle.std.specs.Prelude.{◌≡◌, ◌≢◌, ◌≤◌, ◌<◌, ◌↔◌, ℕ, List, [], true, length, Option}
use Rattle.std.specs.Io.KnownBytes.{Appends, Consumes, IsAtEnd}
use Rattle.pm_document_text.specs.Text.{document_text}
use Rattle.pm_model.specs.Causes.{raised}
use Rattle.pm_model.specs.History.{replay}
use Rattle.pm_model.specs.Lines.{events}
use Rattle.pm_model.specs.Recorded.{history_after}
use Rattle.pm_policy.specs.Drawn.{policy_in_order}
use Rattle.pm_program.specs.Making.{is_of_all}
use Rattle.pm_program.specs.Reading.{Seen}
use Rattle.pm_run.specs.Fronts.{IsProperFront}
use Rattle.pm_run.specs.declared.statuses.Status.{Status}
use Rattle.pm_run.specs.declared.statuses.Status.TheVariants.{Done, ReadFault, WriteFault, Memory, TooMuch}

-- the document of the machine once it has answered the lines of these bytes: of the replay of the history that they make
abbrev pub exported : List ℕ → List ℕ
exported bytes = document_text (policy_in_order (replay (history_after [] (events bytes))).graph)

-- these bytes are all that there were, fewer than the limit, and this is the document of the machine that they make
pub record IsExport (limit : ℕ) (old new : Seen) (text : List ℕ) : Type 0 where
  pub bytes : List ℕ
  pub consumed : Consumes old.left new.left bytes
  pub at_end : IsAtEnd new.left
  pub ended : new.ends ≡ raised old.ends
  pub short : length bytes < limit
  pub text_is : text ≡ exported bytes

-- what was written, by the status, where these bytes were taken; there is no other
abbrev pub IsExportDue : Status → List ℕ → List ℕ → Type 0
IsExportDue Done bytes written = written ≡ exported bytes
IsExportDue WriteFault bytes written = IsProperFront written (exported bytes)
IsExportDue ReadFault bytes written = written ≡ []
IsExportDue Memory bytes written = written ≡ []
IsExportDue TooMuch bytes written = written ≡ []
IsExportDue _ bytes written = ⊥

-- so much was read and written, where the source's count of ends was the one and is the other
pub record Exported (limit : ℕ) (left rest : Option (List ℕ)) (before now : ℕ) (taken grown : Option (List ℕ)) (status : Status) : Type 0 where
  -- what was taken from the source, and what `out` took
  pub bytes : List ℕ
  pub written : List ℕ
  pub consumed : Consumes left rest bytes
  pub appended : Appends taken grown written
  pub due : IsExportDue status bytes written
  -- what was written is of an input of which nothing is left
  pub whole : is_of_all status ≡ true → IsAtEnd rest × (now ≡ raised before)
  -- TooMuch comes exactly at the limit; it yields to want of memory
  pub within : length bytes ≤ limit
  pub at_limit : status ≢ Memory → (status ≡ TooMuch) ↔ (length bytes ≡ limit)
