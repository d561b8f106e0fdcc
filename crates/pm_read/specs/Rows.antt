-- The words of commands, in the groups in which their rows are looked for, and what a search among one of them finds.
use Rattle.std.specs.Prelude.{◌≡◌, ◌≢◌, ℕ, List, [], ◌∷◌, Option, None, Some, Result}
use Rattle.pm_model.specs.Formed.{Each}
use Rattle.pm_model.specs.Words.{word_text}
use Rattle.pm_model.specs.declared.actions.Act.{Act}
use Rattle.pm_model.specs.declared.lines.BadLine.{BadLine}
use Rattle.pm_model.specs.declared.requests.Body.{Body}
use Rattle.pm_model.specs.declared.words.Word.{Word}
use Rattle.pm_model.specs.declared.words.Word.TheVariants as word
use Rattle.pm_read.specs.Reads.{ReadsRow}
use Rattle.pm_read.specs.declared.errors.ReadError.{ReadError}

abbrev pub session_words : List Word
session_words = word.Version ∷ word.Access ∷ word.OpenSession ∷ word.CloseSession ∷ word.StartProcess ∷ word.EndProcess ∷ []

abbrev pub element_words : List Word
element_words =
    word.CreatePc ∷ word.CreateUser ∷ word.CreateUa ∷ word.CreateOa ∷ word.CreateObject ∷ word.Delete ∷ word.Assign ∷ word.Deassign ∷ []

abbrev pub rule_words : List Word
rule_words = word.Associate ∷ word.Dissociate ∷ word.Prohibit ∷ word.Lift ∷ word.DefineRight ∷ word.Oblige ∷ word.Withdraw ∷ []

abbrev pub review_words : List Word
review_words =
    word.Keep ∷ word.DropReview ∷ word.Caps ∷ word.Entries ∷ word.Survey ∷ word.Kept ∷ word.Changes ∷ []

-- those of an action's acts that are looked for first
abbrev pub act_words : List Word
act_words = word.CreateUser ∷ word.CreateUa ∷ word.CreateOa ∷ word.CreateObject ∷ word.Delete ∷ word.Assign ∷ word.Deassign ∷ []

-- the text is none of these words
abbrev pub IsNoneOf : List Word → List ℕ → Type 0
IsNoneOf words text = Each (λ w. text ≢ word_text w) words

-- the row was read, or the text is none of these words
abbrev pub FindsRow : List Word → List ℕ → Option (Result Body BadLine) → Option (Result Body ReadError) → Type 0
FindsRow words text row None = IsNoneOf words text
FindsRow words text row (Some r) = ReadsRow (Some r) row

-- the act was read, or the text is none of these words
abbrev pub FindsAct : List Word → List ℕ → Option Act → Option (Option Act) → Type 0
FindsAct words text act None = IsNoneOf words text
FindsAct words text act (Some read) = read ≡ act
