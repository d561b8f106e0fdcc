-- What the lists of kept reviews have to be, before a change is made up for and after. The project's own.
use Rattle.std.specs.Prelude.{◌≡◌, ℕ, Bool, true, false, ◌==◌, if◌then◌else◌, List, [], ◌∷◌, IfSome}
use Rattle.pm_model.specs.Formed.{Each, IsLive, IsUser}
use Rattle.pm_model.specs.Reviews.{capabilities, entries, list_of, numbers_in, rights_in, users_in}
use Rattle.pm_model.specs.State.{Graph}
use Rattle.pm_model.specs.declared.reviews.Pair.{Pair}
use Rattle.pm_model.specs.declared.reviews.ReviewOf.TheVariants.{Caps, Entries}
use Rattle.pm_affect.specs.Affected.{is_in}
use Rattle.pm_affect.specs.Lists.{Listed, Lists, is_among}
use Rattle.pm_affect.specs.declared.region.Region.{Region}
use Rattle.pm_affect.specs.declared.region.Region.TheVariants.{One}

-- ---- as they have to be

-- the list that the judge's rights over these elements give
abbrev pub caps_anew : (ℕ → ℕ → ℕ) → List ℕ → Listed → Listed
caps_anew rights elements k = record k { pairs = capabilities rights elements k.subject }

-- that over these users
abbrev pub entries_anew : (ℕ → ℕ → ℕ) → List ℕ → Listed → Listed
entries_anew rights users k = record k { pairs = entries rights users k.subject }

-- each list is what these rights give
pub record AreGiven (rights : ℕ → ℕ → ℕ) (elements users : List ℕ) (L : Lists) : Type 0 where
  pub caps : Each (λ (k : Listed). k.pairs ≡ capabilities rights elements k.subject) L.caps
  pub entries : Each (λ (k : Listed). k.pairs ≡ entries rights users k.subject) L.entries

-- each is of one of these
pub record AreAmong (elements users : List ℕ) (L : Lists) : Type 0 where
  pub caps : Each (λ (k : Listed). is_among users k.subject ≡ true) L.caps
  pub entries : Each (λ (k : Listed). is_among elements k.subject ≡ true) L.entries

-- all lists are those of the graph
abbrev pub AreLists : Graph → Lists → Type 0
AreLists G L = AreGiven (rights_in G) (numbers_in G.elements) (users_in G.elements) L

-- all that were there when they were last copied were those of the graph
pub record WereLists (G : Graph) (L : Lists) : Type 0 where
  pub caps : Each (λ (k : Listed). IfSome k.was (λ (ps : List Pair). ps ≡ list_of G (Caps k.subject))) L.caps
  pub entries : Each (λ (k : Listed). IfSome k.was (λ (ps : List Pair). ps ≡ list_of G (Entries k.subject))) L.entries

-- what they are of is live, and what capabilities are of are users
pub record AreLive (G : Graph) (L : Lists) : Type 0 where
  pub caps : Each (λ (k : Listed). IsUser G.elements k.subject) L.caps
  pub entries : Each (λ (k : Listed). IsLive G.elements k.subject) L.entries

-- ---- as they may be before

-- the rights that a list has at a number
abbrev pub rights_at : List Pair → ℕ → ℕ
rights_at [] n = 0
rights_at (p ∷ ps) n = if p.element == n then p.rights else rights_at ps n

-- the element that was made or is gone
abbrev pub is_one : Region → ℕ → Bool
is_one (One x) n = x == n
is_one _ n = false

-- the list is right at each of the numbers outside, and has nothing but them and what is gone
pub record IsRightOutside (inside gone : ℕ → Bool) (rights : ℕ → ℕ) (ns : List ℕ) (ps : List Pair) : Type 0 where
  pub right : (n : ℕ) → is_among ns n ≡ true → inside n ≡ false → rights_at ps n ≡ rights n
  pub nothing_else : (n : ℕ) → is_among ns n ≡ false → gone n ≡ false → rights_at ps n ≡ 0

module _ (below : ℕ → ℕ → Bool) (region : Region) (rights : ℕ → ℕ → ℕ) (elements users : List ℕ) where
  abbrev pub AreCapsRight : Listed → Type 0
  AreCapsRight k =
      (is_among users k.subject ≡ true)
      × IsRightOutside (λ e. is_in below region k.subject e) (is_one region) (λ e. rights k.subject e) elements k.pairs

  abbrev pub AreEntriesRight : Listed → Type 0
  AreEntriesRight k =
      (is_among elements k.subject ≡ true)
      × IsRightOutside (λ u. is_in below region u k.subject) (is_one region) (λ u. rights u k.subject) users k.pairs

  -- what each list is of is live, and it is right outside the region
  pub record AreRight (L : Lists) : Type 0 where
    pub caps : Each AreCapsRight L.caps
    pub entries : Each AreEntriesRight L.entries
