-- The command that reads the words, and what its matches tell.
use Rattle.std.specs.Prelude.{◌≡◌, ◌≢◌, ◌≤◌, ℕ, Bool, false, true, List, [], ◌∷◌, Option, Some, None, codes, decimal, fold, length, map}
use Rattle.std.specs.List.{list_any}
use Rattle.std.specs.Option.{IsSomeAnd}
use Rattle.clap.specs.Words.{App, Row, Rule, Text, first_value, new_app, new_rule, with_subcommand}
use Rattle.clap.specs.declared.parser.matches.ValueSource.TheVariants.{CommandLine}
use Rattle.clap.specs.declared.parser.matches.Found.{Found}
use Rattle.clap.specs.declared.builder.value_parser.Reading.TheVariants.{AsWritten}
use Rattle.pm_words.specs.declared.words.Asked.{Asked}
use Rattle.pm_words.specs.declared.words.Asked.TheVariants.{ServeJournal}
use Rattle.pm_words.specs.Lists.{Wanted, Entry, entries, labels_of}
use Rattle.pm_words.specs.Words.{entry_named, is_flag}

-- a value that has to be there, with no flag before it
abbrev pub value_rule : Text → Rule
value_rule label = record (new_rule label) { required = true }

-- a word with values of these names
abbrev pub word_app : Text → List Text → App
word_app name labels = record (new_app name) {
  top = record (new_app name).top { rules = map value_rule labels };
}

-- a word with its values
abbrev pub entry_app : Entry → App
entry_app entry = word_app entry.name (labels_of entry)

abbrev pub with_entry : App → Entry → App
with_entry app entry = with_subcommand app (entry_app entry).top

-- the program, with no flag, and no word yet
abbrev pub bare_app : App
bare_app = record (new_app (codes "ngac")) {
  top = record (new_app (codes "ngac")).top {
    no_binary_name = true;
    disable_help_flag = true;
    disable_help_subcommand = true;
    subcommand_required = true;
  };
}

-- what a parse reads of the command
unfoldable pub app : App
app = fold with_entry bare_app entries

-- one value from the words
abbrev pub value_row : Text → Text → Row
value_row label value = record {
  id = label;
  values = value ∷ [];
  count = None;
  source = Some CommandLine;
  reading = AsWritten;
}

abbrev pub value_rows : List Text → List Text → List Row
value_rows [] values = []
value_rows (label ∷ labels) [] = []
value_rows (label ∷ labels) (value ∷ values) = value_row label value ∷ value_rows labels values

-- the words are one that there is and a value for each that it wants, none begins with `-`, and the rows have these values
pub record Tells (words : List Text) (name : Text) (rows : List Row) : Type 0 where
  pub entry : Entry
  pub named : entry_named name ≡ Some entry
  pub values : List Text
  pub told : words ≡ name ∷ values
  pub plain : list_any is_flag words ≡ false
  pub each : length values ≡ length (labels_of entry)
  pub found : rows ≡ value_rows (labels_of entry) values

-- the subcommand that was met tells the words
abbrev pub TellsMet : List Text → Option (Text × List Row) → Type 0
TellsMet words met = IsSomeAnd met (λ m. Tells words m.0 m.1)

-- the value of this name is this number, and within its bounds
abbrev pub IsValue : Found → Wanted → ℕ → Type 0
IsValue found wanted n = (first_value found wanted.label ≡ Some (decimal n)) × (wanted.least ≤ n) × (n ≤ wanted.most)

-- the value of this name is this text, and not empty
abbrev pub IsText : Found → Text → Text → Type 0
IsText found label text = (first_value found label ≡ Some text) × (text ≢ [])

-- a server with a journal is asked for
abbrev pub asks_journal : Option Asked → Bool
asks_journal (Some (ServeJournal port workers)) = true
asks_journal _ = false
