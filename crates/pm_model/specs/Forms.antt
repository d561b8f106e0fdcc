-- Forms of fields: names, numbers, lists, subjects and modes, each as JSON gives it. The project's own.
use Rattle.std.specs.Prelude.{ℕ, ◌+◌, ◌^◌, List, [], ◌∷◌, ◌&&◌, if◌then◌else◌, nat_lt, nat_le, length, filter, not, bytes_eq, Option, None, Some, option_and_then, option_map}
use Rattle.serde_json.specs.Data.{Data, Items, no_items, item}
use Rattle.serde_json.specs.Find.{get, as_str, as_number, as_u64, as_array}
use Rattle.pm_model.specs.Name.{is_name}
use Rattle.pm_model.specs.Words.{key_text, word_text}
use Rattle.pm_model.specs.declared.words.Key.TheVariants as key
use Rattle.pm_model.specs.declared.words.Word.TheVariants as word
use Rattle.pm_model.specs.declared.reviews.ReviewOf.{ReviewOf}
use Rattle.pm_model.specs.declared.reviews.ReviewOf.TheVariants as of
use Rattle.pm_model.specs.declared.prohibitions.Mode.{Mode}
use Rattle.pm_model.specs.declared.prohibitions.Mode.TheVariants as mode
use Rattle.pm_model.specs.declared.prohibitions.Subject.{Subject}
use Rattle.pm_model.specs.declared.prohibitions.Subject.TheVariants as subject

-- what stands at a key of a value
abbrev pub looking : Data → List ℕ → Option Data
looking d k = get k d

abbrev pub if_name : List ℕ → Option (List ℕ)
if_name s = if is_name s then Some s else None

-- a text that is a name
abbrev pub name_form : Data → Option (List ℕ)
name_form d = option_and_then if_name (as_str d)

-- a whole number from 0 to 2^64 - 1, written without sign, fraction or exponent
abbrev pub whole_form : Data → Option ℕ
whole_form d = option_and_then as_u64 (as_number d)

abbrev pub if_short : ℕ → Option ℕ
if_short n = if nat_lt n (2 ^ 32) then Some n else None

-- a whole number from 0 to 2^32 - 1
abbrev pub short_form : Data → Option ℕ
short_form d = option_and_then if_short (whole_form d)

-- a list of what has a form
abbrev pub list_of : {A : Type 0} → (Data → Option A) → Items → Option (List A)
list_of form no_items = Some []
list_of form (item d ds) = option_and_then (λ x. option_map (λ xs. x ∷ xs) (list_of form ds)) (form d)

-- a list of names
abbrev pub names_of : Items → Option (List (List ℕ))
names_of ds = list_of name_form ds

-- a list without its repeats: its first name, and then the others
abbrev pub distinct : List (List ℕ) → List (List ℕ)
distinct [] = []
distinct (n ∷ ns) = n ∷ filter (λ m. not (bytes_eq n m)) (distinct ns)

abbrev pub if_some_few : List (List ℕ) → Option (List (List ℕ))
if_some_few ns = if nat_lt 0 (length ns) && nat_le (length ns) 32 then Some ns else None

-- a list of 1 to 32 names, as it stands
abbrev pub listed_form : Data → Option (List (List ℕ))
listed_form d = option_and_then if_some_few (option_and_then names_of (as_array d))

-- the same read as a set: its repeats count towards the 32 and are left out
abbrev pub rights_form : Data → Option (List (List ℕ))
rights_form d = option_map distinct (listed_form d)

-- a list of names, which may be empty
abbrev pub list_form : Data → Option (List (List ℕ))
list_form d = option_and_then names_of (as_array d)

-- where both lists together have at most 32 names
abbrev pub if_few_beside : List (List ℕ) → List (List ℕ) → Option (List (List ℕ))
if_few_beside inc exc = if nat_le (length inc + length exc) 32 then Some exc else None

abbrev pub mode_of : List ℕ → Option Mode
mode_of w = if bytes_eq w (word_text word.All) then Some mode.All else (if bytes_eq w (word_text word.Any) then Some mode.Any else None)

abbrev pub mode_form : Data → Option Mode
mode_form d = option_and_then mode_of (as_str d)

-- what may be kept: the word of the review, with what it is of
abbrev pub kind_of : List ℕ → Option (List ℕ → ReviewOf (List ℕ))
kind_of w =
    if bytes_eq w (word_text word.Caps) then Some of.Caps else (if bytes_eq w (word_text word.Entries) then Some of.Entries else None)

abbrev pub kind_form : Data → Option (List ℕ → ReviewOf (List ℕ))
kind_form d = option_and_then kind_of (as_str d)

-- exactly one of the keys `user`, `ua` and `process` is there, with these forms of an element and a process
module _ {N P : Type 0} (element : Data → Option N) (process : Data → Option P) where
  abbrev pub one_subject : Option Data → Option Data → Option Data → Option (Subject N P)
  one_subject (Some u) None None = option_map subject.User (element u)
  one_subject None (Some a) None = option_map subject.Ua (element a)
  one_subject None None (Some p) = option_map subject.Process (process p)
  one_subject _ _ _ = None

  abbrev pub subject_by : Data → Option (Subject N P)
  subject_by d = one_subject (get (key_text key.User) d) (get (key_text key.Ua) d) (get (key_text key.Process) d)

abbrev pub subject_form : Data → Option (Subject (List ℕ) ℕ)
subject_form d = subject_by name_form short_form d
