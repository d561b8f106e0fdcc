-- The lists of kept reviews, by what they are of. The project's own.
use Rattle.std.specs.Prelude.{◌≡◌, ◌≤◌, ◌<◌, ◌^◌, ℕ, ◌+◌, Bool, false, not, ◌==◌, nat_lt, if◌then◌else◌, List, [], ◌∷◌, map, filter, find, Option, None, Some, option_map}
use Rattle.std.specs.List.{list_any}
use Rattle.std.specs.Option.{option_and_then}
use Rattle.pm_model.specs.Formed.{Each}
use Rattle.pm_model.specs.declared.reviews.Pair.{Pair}
use Rattle.pm_model.specs.declared.reviews.ReviewOf.{ReviewOf}
use Rattle.pm_model.specs.declared.reviews.ReviewOf.TheVariants.{Caps, Entries}

-- a list, of the capabilities of a user or of the entries of an element
pub record Listed : Type 0 where
  pub subject : ℕ
  pub pairs : List Pair
  -- what the list was when it was last copied, if there was one then
  pub was : Option (List Pair)

pub record Lists : Type 0 where
  -- the capabilities, by rising user
  pub caps : List Listed
  -- the entries, by rising element
  pub entries : List Listed
  -- how many rights were judged for them
  pub asked : ℕ

-- ---- order

-- the numbers rise, and the first is at least `low`
abbrev pub Rise : ℕ → List ℕ → Type 0
Rise low [] = Unit {0}
Rise low (n ∷ ns) = (low ≤ n) × Rise (n + 1) ns

abbrev pub is_among : List ℕ → ℕ → Bool
is_among ns n = list_any (λ m. m == n) ns

abbrev pub subjects : List Listed → List ℕ
subjects ks = map (λ (k : Listed). k.subject) ks

-- the numbers of the pairs rise, the first is at least `low`, and none has empty rights
abbrev pub IsInOrder : ℕ → List Pair → Type 0
IsInOrder low [] = Unit {0}
IsInOrder low (p ∷ ps) = (low ≤ p.element) × ((p.rights == 0) ≡ false) × IsInOrder (p.element + 1) ps

-- lists by rising subject, each in order
pub record AreListed (ks : List Listed) : Type 0 where
  pub rise : Rise 0 (subjects ks)
  pub order : Each (λ (k : Listed). IsInOrder 0 k.pairs) ks

-- what the table keeps
pub record AreKept (L : Lists) : Type 0 where
  pub caps : AreListed L.caps
  pub entries : AreListed L.entries
  pub few : L.asked < 2 ^ 64

-- ---- the list of a review

abbrev pub is_of : ℕ → Listed → Bool
is_of n k = k.subject == n

abbrev pub pairs_of_some : ℕ → List Listed → Option (List Pair)
pairs_of_some n ks = option_map (λ (k : Listed). k.pairs) (find (is_of n) ks)

abbrev pub list_in : Lists → ReviewOf ℕ → Option (List Pair)
list_in L (Caps u) = pairs_of_some u L.caps
list_in L (Entries e) = pairs_of_some e L.entries

abbrev pub was_of_some : ℕ → List Listed → Option (List Pair)
was_of_some n ks = option_and_then (λ (k : Listed). k.was) (find (is_of n) ks)

-- what it was when it was last copied, if there was one then
abbrev pub was_in : Lists → ReviewOf ℕ → Option (List Pair)
was_in L (Caps u) = was_of_some u L.caps
was_in L (Entries e) = was_of_some e L.entries

-- ---- lists are copied

abbrev pub copied : Listed → Listed
copied k = record k { was = Some k.pairs }

abbrev pub all_copied : Lists → Lists
all_copied L = record L { caps = map copied L.caps; entries = map copied L.entries }

-- ---- lists come and go

-- with this list behind those of lower subjects
abbrev pub with_list : Listed → List Listed → List Listed
with_list x [] = x ∷ []
with_list x (k ∷ ks) = if nat_lt k.subject x.subject then k ∷ with_list x ks else x ∷ k ∷ ks

abbrev pub listing : ℕ → List Pair → Listed
listing n ps = record { subject = n; pairs = ps; was = None }

abbrev pub inserted : ReviewOf ℕ → List Pair → Lists → Lists
inserted (Caps u) ps L = record L { caps = with_list (listing u ps) L.caps }
inserted (Entries e) ps L = record L { entries = with_list (listing e ps) L.entries }

abbrev pub without_list : ℕ → List Listed → List Listed
without_list n ks = filter (λ k. not (is_of n k)) ks

abbrev pub removed : ReviewOf ℕ → Lists → Lists
removed (Caps u) L = record L { caps = without_list u L.caps }
removed (Entries e) L = record L { entries = without_list e L.entries }
