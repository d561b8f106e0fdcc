-- What is written of the lines that make the document of an input.
use Rattle.std.specs.Prelude.{◌≡◌, ◌≤◌, ◌↔◌, ℕ, Bool, true, false, List, [], length, Option, Some}
use Rattle.std.specs.Io.KnownBytes.{Appends, Consumes, IsAtEnd}
use Rattle.pm_model.specs.Causes.{raised}
use Rattle.pm_document.specs.Forms.{policy_of}
use Rattle.pm_making.specs.Lines.{document_lines}
use Rattle.pm_policy.specs.Sound.{IsSound}
use Rattle.pm_policy.specs.declared.policy.Policy.{Policy}
use Rattle.pm_program.specs.Reading.{Seen, TookAll}
use Rattle.pm_run.specs.Fronts.{IsProperFront}
use Rattle.pm_run.specs.declared.statuses.Status.{Status}
use Rattle.pm_run.specs.declared.statuses.Status.TheVariants.{Done, ReadFault, WriteFault, Memory, TooMuch, DocumentRefused}

-- the bytes say a sound document with these lists
pub record SaysDocument (bytes : List ℕ) (D : Policy) : Type 0 where
  pub said : policy_of bytes ≡ Some D
  pub sound : IsSound D

-- and none
abbrev pub SaysNone : List ℕ → Type 0
SaysNone bytes = (D : Policy) → ¬ (SaysDocument bytes D)

-- these are the lines that make the document that the bytes say
pub record AreLinesOf (bytes lines : List ℕ) : Type 0 where
  pub document : Policy
  pub says : SaysDocument bytes document
  pub made : lines ≡ document_lines document

-- so are these of all that the source had
abbrev pub AreReady : ℕ → Seen → Seen → List ℕ → Type 0
AreReady limit old new lines = (bytes : List ℕ) × TookAll limit old new bytes × AreLinesOf bytes lines

-- what was written, by the status, where these bytes were taken; there is no other
abbrev pub AreLinesDue : Status → List ℕ → List ℕ → Type 0
AreLinesDue Done bytes written = AreLinesOf bytes written
AreLinesDue WriteFault bytes written = (lines : List ℕ) × AreLinesOf bytes lines × IsProperFront written lines
AreLinesDue DocumentRefused bytes written = SaysNone bytes × (written ≡ [])
AreLinesDue ReadFault bytes written = written ≡ []
AreLinesDue Memory bytes written = written ≡ []
AreLinesDue TooMuch bytes written = written ≡ []
AreLinesDue _ bytes written = ⊥

-- the status tells what the whole input says
abbrev pub is_of_all : Status → Bool
is_of_all Done = true
is_of_all WriteFault = true
is_of_all DocumentRefused = true
is_of_all _ = false

-- so much was read and written, where the source's count of ends was the one and is the other
pub record Made (limit : ℕ) (left rest : Option (List ℕ)) (before now : ℕ) (taken grown : Option (List ℕ)) (status : Status) : Type 0 where
  -- what was taken from the source, and what `out` took
  pub bytes : List ℕ
  pub written : List ℕ
  pub consumed : Consumes left rest bytes
  pub appended : Appends taken grown written
  pub due : AreLinesDue status bytes written
  -- the status tells of an input of which nothing is left
  pub whole : is_of_all status ≡ true → IsAtEnd rest × (now ≡ raised before)
  -- TooMuch comes exactly at the limit
  pub within : length bytes ≤ limit
  pub at_limit : (status ≡ TooMuch) ↔ (length bytes ≡ limit)
