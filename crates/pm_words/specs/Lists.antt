-- The list of words, as contracts see it.
use Rattle.std.specs.Prelude.{List, ◌++◌, ℕ, map}
use Rattle.std.specs.Borrow.{Bor}
use Rattle.pm_words.specs.declared.grammar.TheConstants.{WORDS}

-- a number that has to stand behind a word: what the usage line calls it, its least and its most
pub record Wanted : Type 0 where
  pub label : List ℕ
  pub least : ℕ
  pub most : ℕ

-- a word, the numbers behind it, and what the usage line calls the texts behind these
pub record Entry : Type 0 where
  pub name : List ℕ
  pub wanted : List Wanted
  pub texts : List (List ℕ)

-- what the usage line calls all that stands behind a word
abbrev pub labels_of : Entry → List (List ℕ)
labels_of entry = map (λ wanted. wanted.label) entry.wanted ++ entry.texts

-- the words that there are
abbrev pub entries : List Entry
entries = map (λ entry. record {
  name = entry.0.now;
  wanted = map (λ wanted. record { label = wanted.0.now; least = wanted.1; most = wanted.2 }) entry.1.now;
  texts = map (λ text. text.now) entry.2.now;
}) WORDS

-- the same of the code's values
abbrev pub wanted_of : Bor (List ℕ) × ℕ × ℕ → Wanted
wanted_of wanted = record { label = wanted.0.now; least = wanted.1; most = wanted.2 }

abbrev pub entry_of : Bor (List ℕ) × Bor (List (Bor (List ℕ) × ℕ × ℕ)) × Bor (List (Bor (List ℕ))) → Entry
entry_of entry = record { name = entry.0.now; wanted = map wanted_of entry.1.now; texts = map (λ text. text.now) entry.2.now }
