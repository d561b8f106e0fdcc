-- What is written of a summary.
use Rattle.std.proofs.Common.{◌≡◌, ◌<◌, ◌≤◌, List, ℕ, [], Option, Ok, Err, subst}
use Rattle.std.specs.Prelude.{Result, String}
use Rattle.std.specs.declared.alloc.Global.{Global}
use Rattle.std.specs.declared.io.Error.{Error}
use Rattle.std.specs.declared.vec.IntoIter.{IntoIter}
use Rattle.pm_generator.specs.Generated.{generated}
use Rattle.pm_generator.specs.Summaries.{summary, summary_text}
use Rattle.pm_program.specs.Generating.{Summed}
use Rattle.pm_run.specs.Fronts.{IsProperFront}
use Rattle.pm_run.specs.Wrote.{WrotePart}
use Rattle.pm_run.specs.declared.statuses.Status.TheVariants.{WriteFault}
use Rattle.pm_words.specs.Words.{AskGenerate, words_of}
use Rattle.pm_words.proofs.Values.{generate_written_out}

-- a front of the text, where writing failed
pub part_summed : (size : ℕ) (a b : Option (List ℕ)) (text : List ℕ) → text ≡ summary_text (summary (generated size)) → WrotePart a b (λ _. text)
    → Summed size a b WriteFault
part_summed size a b text is part = record {
  written = part.written;
  appended = part.appended;
  due = subst (IsProperFront part.written) is (part.told []);
}

-- a size that is asked for is one that there is
pub is_size : (args : Result (IntoIter (String Global) Global) Error) (size : ℕ) → AskGenerate args size → (0 < size) × (size ≤ 200)
is_size (Ok words) size asked = let is = (generate_written_out (words_of words) size).0 asked in (is.1, is.2)
is_size (Err e) size asked = absurd asked
