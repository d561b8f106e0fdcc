-- Rows of lists, each in a leaf.
use Rattle.std.specs.Prelude.{◌≡◌, ◌≤◌, ℕ, Bool, true, false, ◌&&◌, List, [], ◌∷◌, ◌++◌, length, map, drop, unwrap_or, Some, slice_get}
use Rattle.std.specs.List.{flat_map}
use Rattle.pm_pages.specs.Paged.{Row}

-- a list, and whether it is the row's own
pub record Leaved (T : Type 0) : Type 0 where
  pub items : List T
  pub own : Bool

module _ {T : Type 0} where
  abbrev pub held : Leaved T → List T
  held l = l.items

  abbrev pub is_own_leaf : Leaved T → Bool
  is_own_leaf l = l.own

  -- for each leaf, whether it may be written: it is the row's own, and stands in a page of the row's own
  abbrev pub both_own : List (Leaved T) → List Bool → List Bool
  both_own [] ms = []
  both_own (l ∷ ls) [] = false ∷ both_own ls []
  both_own (l ∷ ls) (m ∷ ms) = (l.own && m) ∷ both_own ls ms

  -- list k may be written
  abbrev pub IsOwnList : Row T → ℕ → Type 0
  IsOwnList row k = slice_get row.own k ≡ Some true

  -- what may be written still may
  abbrev pub KeepsLists : Row T → Row T → Type 0
  KeepsLists old new = (k : ℕ) → IsOwnList old k → IsOwnList new k

  -- for each item of the lists, whether its list may be written
  abbrev pub marks_in : List (List T) → List Bool → List Bool
  marks_in [] ms = []
  marks_in (l ∷ ls) ms = map (λ _. unwrap_or (slice_get ms 0) false) l ++ marks_in ls (drop 1 ms)

  -- the items of the lists, in order
  abbrev pub all_in : List (List T) → List T
  all_in lists = flat_map (λ (list : List T). list) lists

  -- each list has 16 items, the last at most
  abbrev pub AreFull : List (List T) → Type 0
  AreFull [] = Unit {0}
  AreFull (l ∷ []) = length l ≤ 16
  AreFull (l ∷ m ∷ ls) = (length l ≡ 16) × AreFull (m ∷ ls)
