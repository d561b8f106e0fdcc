-- What is said of a status.
use Rattle.std.proofs.Common.{ℕ, List, [], Option, Result, Ok, Err, OnOk, OnErr, refl, inl, inr}
use Rattle.std.specs.Io.KnownBytes.{Appends}
use Rattle.pm_model.specs.Causes.{HasCause}
use Rattle.pm_model.specs.declared.outside.Failed.{Failed}
use Rattle.pm_program.specs.Said.{Said}
use Rattle.pm_run.specs.Wrote.{WrotePart}

-- a text that was written, whole or in part
pub said-of : {T : Type 0} (a b : Option (List ℕ)) (f k : ℕ) (text : List ℕ) (r : Result T Failed)
    → OnOk r (Appends a b text) → OnErr r (WrotePart a b (λ _. text)) → HasCause f k r → Said a b f k text
said-of a b f k text (Ok x) ok err cause = record {
  written = text;
  appended = ok;
  told = inl (refl, cause.kept);
}
said-of a b f k text (Err e) ok err cause = record {
  written = err.written;
  appended = err.appended;
  told = inr (err.told [], cause.failed);
}
