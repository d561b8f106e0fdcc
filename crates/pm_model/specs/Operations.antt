-- The operations that an obligation can wait for: access rights, and administrative commands by their words. Source: the
-- standard's events; the words are the project's own.
use Rattle.std.specs.Prelude.{ℕ, Bool, false, ◌||◌, List, [], ◌∷◌, Option, None, Some, bytes_eq}
use Rattle.std.specs.List.{list_any}
use Rattle.pm_model.specs.RightSet.{bit_named, is_access_right}
use Rattle.pm_model.specs.Words.{word_text}
use Rattle.pm_model.specs.declared.words.Word.{Word}
use Rattle.pm_model.specs.declared.words.Word.TheVariants as word

-- the commands that raise events
abbrev pub event_commands : List Word
event_commands =
    word.CreatePc ∷ word.CreateUser ∷ word.CreateUa ∷ word.CreateOa ∷ word.CreateObject ∷ word.Delete ∷ word.Assign ∷ word.Deassign
    ∷ word.Associate ∷ word.Dissociate ∷ word.Prohibit ∷ word.Lift ∷ word.DefineRight ∷ word.Oblige ∷ word.Withdraw ∷ []

abbrev pub is_event_command : List ℕ → Bool
is_event_command name = list_any (λ w. bytes_eq name (word_text w)) event_commands

abbrev pub is_access_bit : Option ℕ → Bool
is_access_bit None = false
is_access_bit (Some bit) = is_access_right bit

-- the name is that of an access right, where rights have these names, or the word of such a command
abbrev pub is_operation : List (List ℕ) → List ℕ → Bool
is_operation rights name = is_access_bit (bit_named rights name) || is_event_command name
