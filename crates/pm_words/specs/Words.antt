-- What the words of the command line ask for.
use Rattle.std.specs.Prelude.{◌≡◌, ◌≢◌, ◌≤◌, ◌==◌, ℕ, Bool, false, List, [], ◌∷◌, ◌++◌, ⊤, Option, Some, None, bytes_eq, codes, decimal, find, map, drop, slice_index, Result, IsOkAnd, MatchResult, String, string_bytes}
use Rattle.std.specs.List.{concat}
use Rattle.std.specs.Option.{IsSomeAnd}
use Rattle.std.specs.Vec.Iter.{into_iter_items}
use Rattle.std.specs.IoError.{error_kind}
use Rattle.std.specs.declared.alloc.Global.{Global}
use Rattle.std.specs.declared.io.Error.{Error}
use Rattle.std.specs.declared.io.ErrorKind.TheVariants.{OutOfMemory}
use Rattle.std.specs.declared.vec.IntoIter.{IntoIter}
use Rattle.pm_words.specs.Lists.{Wanted, Entry, entries, labels_of}
use Rattle.pm_words.specs.declared.words.Asked.{Asked}
use Rattle.pm_words.specs.declared.words.Asked.TheVariants.{Run, Generate, Serve, ServeJournal, RequestLines, Export}

-- as many numbers as are wanted, each from its least to its most
abbrev pub AreWithin : List Wanted → List ℕ → Type 0
AreWithin [] [] = ⊤
AreWithin [] (n ∷ ns) = ⊥
AreWithin (w ∷ ws) [] = ⊥
AreWithin (w ∷ ws) (n ∷ ns) = (w.least ≤ n) × (n ≤ w.most) × AreWithin ws ns

-- the word begins with `-` (45)
abbrev pub is_flag : List ℕ → Bool
is_flag word = slice_index word 0 == 45

-- as many texts as are wanted, of which none is empty, and none begins with `-`
abbrev pub AreTexts : List (List ℕ) → List (List ℕ) → Type 0
AreTexts [] [] = ⊤
AreTexts [] (t ∷ ts) = ⊥
AreTexts (w ∷ ws) [] = ⊥
AreTexts (w ∷ ws) (t ∷ ts) = (t ≢ []) × (is_flag t ≡ false) × AreTexts ws ts

-- the word of this name, where there is one
abbrev pub entry_named : List ℕ → Option Entry
entry_named name = find (λ entry. bytes_eq entry.name name) entries

-- the words are one that there is, the numbers that have to stand behind it, in decimal digits with no zero in front, and its texts
pub record Says (words : List (List ℕ)) (name : List ℕ) (numbers : List ℕ) (texts : List (List ℕ)) : Type 0 where
  pub told : words ≡ name ∷ map decimal numbers ++ texts
  pub listed : IsSomeAnd (entry_named name) (λ entry. AreWithin entry.wanted numbers × AreTexts entry.texts texts)

abbrev pub IsRun : List (List ℕ) → Type 0
IsRun words = Says words (codes "run") [] []

abbrev pub IsGenerate : List (List ℕ) → ℕ → Type 0
IsGenerate words size = Says words (codes "generate") (size ∷ []) []

abbrev pub IsServe : List (List ℕ) → ℕ → ℕ → Type 0
IsServe words port workers = Says words (codes "serve") (port ∷ workers ∷ []) []

abbrev pub IsServeJournal : List (List ℕ) → ℕ → ℕ → List ℕ → Type 0
IsServeJournal words port workers file = Says words (codes "serve-journal") (port ∷ workers ∷ []) (file ∷ [])

abbrev pub IsRequestLines : List (List ℕ) → Type 0
IsRequestLines words = Says words (codes "request-lines") [] []

abbrev pub IsExport : List (List ℕ) → Type 0
IsExport words = Says words (codes "export") [] []

-- a server with a journal, whatever its file
abbrev pub HasJournal : List (List ℕ) → ℕ → ℕ → Type 0
HasJournal words port workers = (file : List ℕ) × IsServeJournal words port workers file

-- this is the file of its journal
abbrev pub HasFile : List (List ℕ) → List ℕ → Type 0
HasFile words file = (port : ℕ) × (workers : ℕ) × IsServeJournal words port workers file

-- outside the grammar
abbrev pub IsOther : List (List ℕ) → Type 0
IsOther words = (name : List ℕ) (numbers : List ℕ) (texts : List (List ℕ)) → ¬ (Says words name numbers texts)

-- the words ask for this
abbrev pub IsAsked : List (List ℕ) → Option Asked → Type 0
IsAsked words (Some Run) = IsRun words
IsAsked words (Some (Generate size)) = IsGenerate words size
IsAsked words (Some (Serve port workers)) = IsServe words port workers
IsAsked words (Some (ServeJournal port workers)) = HasJournal words port workers
IsAsked words (Some RequestLines) = IsRequestLines words
IsAsked words (Some Export) = IsExport words
IsAsked words None = IsOther words

-- the words behind the program's name
abbrev pub words_of : IntoIter (String Global) Global → List (List ℕ)
words_of args = map string_bytes (drop 1 (into_iter_items args))

abbrev pub AskRun : Result (IntoIter (String Global) Global) Error → Type 0
AskRun args = IsOkAnd args (λ words. IsRun (words_of words))

abbrev pub AskGenerate : Result (IntoIter (String Global) Global) Error → ℕ → Type 0
AskGenerate args size = IsOkAnd args (λ words. IsGenerate (words_of words) size)

abbrev pub AskServe : Result (IntoIter (String Global) Global) Error → ℕ → ℕ → Type 0
AskServe args port workers = IsOkAnd args (λ words. IsServe (words_of words) port workers)

abbrev pub AskServeJournal : Result (IntoIter (String Global) Global) Error → ℕ → ℕ → Type 0
AskServeJournal args port workers = IsOkAnd args (λ words. HasJournal (words_of words) port workers)

abbrev pub AskRequestLines : Result (IntoIter (String Global) Global) Error → Type 0
AskRequestLines args = IsOkAnd args (λ words. IsRequestLines (words_of words))

abbrev pub AskExport : Result (IntoIter (String Global) Global) Error → Type 0
AskExport args = IsOkAnd args (λ words. IsExport (words_of words))

abbrev pub AskFile : Result (IntoIter (String Global) Global) Error → List ℕ → Type 0
AskFile args file = IsOkAnd args (λ words. HasFile (words_of words) file)

-- they are outside the grammar; so is a word that is no text
abbrev pub AskOther : Result (IntoIter (String Global) Global) Error → Type 0
AskOther args = MatchResult args (λ words. IsOther (words_of words)) (λ e. error_kind e ≢ OutOfMemory)

-- ---- the line that says which words there are

abbrev pub spelled : Entry → List ℕ
spelled entry = codes "ngac " ++ entry.name ++ concat (map (λ label. codes " " ++ label) (labels_of entry))

abbrev pub joined : List (List ℕ) → List ℕ
joined [] = []
joined (text ∷ []) = text
joined (text ∷ next ∷ rest) = text ++ codes " | " ++ joined (next ∷ rest)

abbrev pub usage_line : List ℕ
usage_line = codes "usage: " ++ joined (map spelled entries) ++ codes "\n"
