-- What is spelt so: of keys, and of what stands beside words.
use Rattle.std.specs.Prelude.{ℕ, List, [], ◌∷◌, Option, None, Some, if◌then◌else◌, bytes_eq}
use Rattle.pm_model.specs.Words.{key_text, word_text}
use Rattle.pm_model.specs.declared.words.Key.{Key}
use Rattle.pm_model.specs.declared.words.Key.TheVariants as key
use Rattle.pm_model.specs.declared.words.Word.{Word}
use Rattle.pm_model.specs.declared.words.Word.TheVariants as word
use Rattle.pm_model.specs.declared.replies.Table.{Table}
use Rattle.pm_model.specs.declared.replies.Table.TheVariants as table

-- what stands beside the word, where it is one of these
abbrev pub beside : {A : Type 0} → List (Word × A) → List ℕ → Option A
beside [] w = None
beside (p ∷ ps) w = if bytes_eq w (word_text p.0) then Some p.1 else beside ps w

abbrev pub keys : List Key
keys =
    key.Action ∷ key.After ∷ key.At ∷ key.Class ∷ key.Cmd ∷ key.Counts ∷ key.Do ∷ key.Element ∷ key.Exc
    ∷ key.Field ∷ key.Fired ∷ key.From ∷ key.Id ∷ key.If ∷ key.Inc ∷ key.Into ∷ key.Kind
    ∷ key.List ∷ key.Mode ∷ key.Name ∷ key.No ∷ key.Obligation ∷ key.Of ∷ key.Ok ∷ key.On ∷ key.Proc
    ∷ key.Process ∷ key.Prohibition ∷ key.Review ∷ key.Right ∷ key.Rights ∷ key.Session ∷ key.Subject ∷ key.Table
    ∷ key.Target ∷ key.To ∷ key.Ua ∷ key.User ∷ key.Users ∷ key.V ∷ key.When ∷ key.Why ∷ []

-- the first of the keys that is spelt so
abbrev pub spelt : List Key → List ℕ → Option Key
spelt [] w = None
spelt (k ∷ ks) w = if bytes_eq w (key_text k) then Some k else spelt ks w

abbrev pub table_words : List (Word × Table)
table_words =
    (word.Elements, table.Elements) ∷ (word.Assignments, table.Assignments) ∷ (word.Associations, table.Associations)
    ∷ (word.Prohibitions, table.Prohibitions) ∷ (word.Obligations, table.Obligations) ∷ (word.Sessions, table.Sessions)
    ∷ (word.Processes, table.Processes) ∷ (word.Reviews, table.Reviews) ∷ (word.Rights, table.Rights)
    ∷ (word.History, table.History) ∷ []
