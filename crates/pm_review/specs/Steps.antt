-- Two lists walked through together, an element at a time: what each step takes from them, and what it tells.
use Rattle.std.specs.Prelude.{ℕ, ◌==◌, min, List, [], ◌∷◌, filter, if◌then◌else◌, bytes_eq, Option, None, Some}
use Rattle.pm_model.specs.LastChanges.{changed, differs}
use Rattle.pm_model.specs.declared.reviews.Changed.{Changed}
use Rattle.pm_model.specs.declared.reviews.Pair.{Pair}

-- the lowest number in two rising lists
abbrev pub lowest : List Pair → List Pair → Option ℕ
lowest [] [] = None
lowest [] (q ∷ qs) = Some q.element
lowest (p ∷ ps) [] = Some p.element
lowest (p ∷ ps) (q ∷ qs) = Some (min p.element q.element)

-- the rights of the element n, if the list begins with it
abbrev pub first_rights : ℕ → List Pair → Option ℕ
first_rights n [] = None
first_rights n (p ∷ ps) = if p.element == n then Some p.rights else None

-- what comes after the element n, if the list begins with it, else all
abbrev pub after_first : ℕ → List Pair → List Pair
after_first n [] = []
after_first n (p ∷ ps) = if p.element == n then ps else p ∷ ps

-- what becomes of the element of a number, or of the two that have had it, by their names and rights
abbrev pub changes_of : List ℕ → List ℕ → ℕ → ℕ → List Changed
changes_of was is old new =
    filter differs (if bytes_eq was is then changed is old new ∷ [] else changed was old 0 ∷ changed is 0 new ∷ [])
