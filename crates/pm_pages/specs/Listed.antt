-- Pages, and the items that stand in them.
use Rattle.std.specs.Prelude.{◌≡◌, ◌<◌, ◌≤◌, ℕ, ◌+◌, ◌-◌, Bool, true, false, List, [], ◌∷◌, ◌++◌, length, insert, map, filter, not, ◌||◌, ◌==◌, if◌then◌else◌, slice_index, slice_get, slice_set, Some}
use Rattle.std.proofs.Common.{zero, suc}
use Rattle.std.specs.Arc.{arc_value}
use Rattle.std.specs.List.{flat_map, list_all, list_any, remove}
use Rattle.pm_pages.specs.declared.pages.Page.{Page}
use Rattle.pm_pages.specs.declared.pages.Page.TheVariants.{Own, Shared}

module _ {T : Type 0} where
  abbrev pub items_of : Page T → List T
  items_of (Own block) = block
  items_of (Shared a) = arc_value a

  abbrev pub is_own : Page T → Bool
  is_own (Own block) = true
  is_own (Shared a) = false

  -- the items of the pages, in order
  abbrev pub listed : List (Page T) → List T
  listed pages = flat_map items_of pages

  -- whether none of the pages is shared
  abbrev pub all_own : List (Page T) → Bool
  all_own pages = list_all is_own pages

  -- for each item of a page, whether the page is its list's own
  abbrev pub marks_of : Page T → List Bool
  marks_of p = map (λ _. is_own p) (items_of p)

  -- for each item of the pages
  abbrev pub marks : List (Page T) → List Bool
  marks pages = flat_map marks_of pages

  -- item i stands in a page of the list's own
  abbrev pub IsOwnAt : List (Page T) → ℕ → Type 0
  IsOwnAt pages i = slice_get (marks pages) i ≡ Some true

  -- what stood in a page of the list's own still does
  abbrev pub KeepsOwn : List (Page T) → List (Page T) → Type 0
  KeepsOwn old new = (i : ℕ) → IsOwnAt old i → IsOwnAt new i

  -- whether page k is the list's own
  abbrev pub own_page : List (Page T) → ℕ → Bool
  own_page [] k = false
  own_page (p ∷ ps) zero = is_own p
  own_page (p ∷ ps) (suc k) = own_page ps k

module _ {X A : Type 0} (f : X → List A) where
  -- where each page begins, if the first begins at n
  abbrev pub starts_from : ℕ → List X → List ℕ
  starts_from n [] = []
  starts_from n (p ∷ ps) = n ∷ starts_from (n + length (f p)) ps

  -- the items of page k
  abbrev pub piece : List X → ℕ → List A
  piece [] k = []
  piece (p ∷ ps) zero = f p
  piece (p ∷ ps) (suc k) = piece ps k

  -- item i stands in page k at place j
  abbrev pub IsSpot : List X → ℕ → ℕ → ℕ → Type 0
  IsSpot [] i k j = ⊥
  IsSpot (p ∷ ps) i zero j = (i ≡ j) × (j < length (f p))
  IsSpot (p ∷ ps) i (suc k) j = (length (f p) ≤ i) × IsSpot ps (i - length (f p)) k j

-- list k of a row
abbrev pub list_at : {T : Type 0} → List (List T) → ℕ → List T
list_at lists k = piece (λ list. list) lists k

module _ {X : Type 0} where
  -- the list with one item changed
  abbrev pub edited : (X → X) → ℕ → List X → List X
  edited f k [] = []
  edited f zero (x ∷ xs) = f x ∷ xs
  edited f (suc k) (x ∷ xs) = x ∷ edited f k xs

module _ {T : Type 0} where
  abbrev pub with_item : ℕ → T → Page T → Page T
  with_item j x p = Own (insert (items_of p) j x)

  abbrev pub without_item : ℕ → Page T → Page T
  without_item j p = Own (remove (items_of p) j)

  abbrev pub changed_item : ℕ → T → Page T → Page T
  changed_item j x p = Own (slice_set (items_of p) j x)

  abbrev pub owned : Page T → Page T
  owned p = Own (items_of p)

  -- whether each item of the page that passes the test may be taken out
  abbrev pub is_ready : (T → Bool) → Page T → Bool
  is_ready test p = is_own p || not (list_any test (items_of p))

  -- the page is the list's own where an item passes the test
  abbrev pub owned_where : (T → Bool) → Page T → Page T
  owned_where test p = if list_any test (items_of p) then owned p else p

  -- an own page without the items that pass the test
  abbrev pub spared : (T → Bool) → Page T → Page T
  spared test (Own block) = Own (filter (λ x. not (test x)) block)
  spared test (Shared a) = Shared a

  abbrev pub has_items : Page T → Bool
  has_items p = not (length (items_of p) == 0)

  -- page k in two, with one item more
  pub record IsSplit (k j : ℕ) (x : T) (old new : List (Page T)) : Type 0 where
    pub head : List T
    pub tail : List T
    pub halves : head ++ tail ≡ insert (piece items_of old k) j x
    pub pages : new ≡ slice_set (insert old (k + 1) (Own tail)) k (Own head)

  -- without page k, where that has no items
  abbrev pub without_empty : ℕ → List (Page T) → List (Page T)
  without_empty k pages = if length (piece items_of pages k) == 0 then remove pages k else pages

-- i is behind the k-th of the starts, and before the next
pub record IsStretch (starts : List ℕ) (i k : ℕ) : Type 0 where
  pub within : k < length starts
  pub behind : slice_index starts k ≤ i
  pub before : k + 1 < length starts → i < slice_index starts (k + 1)
