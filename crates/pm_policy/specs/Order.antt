-- The order in which a document's elements are made: always the one with the least name whose containers are all made. The
-- project's own.
use Rattle.std.specs.Prelude.{ℕ, zero, suc, Bool, true, false, not, List, [], ◌∷◌, ◌++◌, length, filter, find, Option, None, Some, if◌then◌else◌}
use Rattle.std.specs.List.{list_any, list_all}
use Rattle.std.specs.Ordering.{nat_cmp, match_ordering}
use Rattle.std.specs.Cmp.Lexicographic.{slice_cmp}
use Rattle.pm_policy.specs.Policy.{is_called, is_assigned, opening_docs}
use Rattle.pm_policy.specs.declared.policy.DocElement.{DocElement}
use Rattle.pm_policy.specs.declared.policy.DocAssignment.{DocAssignment}

-- ---- by name

-- the first name is below the second, byte by byte
abbrev pub is_below : List ℕ → List ℕ → Bool
is_below a b = match_ordering (slice_cmp nat_cmp a b) true false false

abbrev pub stands_before : DocElement → DocElement → Bool
stands_before d e = is_below d.name e.name

-- by first then second name
abbrev pub leads_before : DocAssignment → DocAssignment → Bool
leads_before p q = match_ordering (slice_cmp nat_cmp p.from q.from) true (is_below p.to q.to) false

-- the list with this item before the first that it stands before
abbrev pub inserted : {X : Type 0} → (X → X → Bool) → X → List X → List X
inserted before x [] = x ∷ []
inserted before x (y ∷ ys) = if before x y then x ∷ y ∷ ys else y ∷ inserted before x ys

abbrev pub sorted : {X : Type 0} → (X → X → Bool) → List X → List X
sorted before [] = []
sorted before (x ∷ xs) = inserted before x (sorted before xs)

-- ---- the order

-- an element of the name has been made
abbrev pub is_made : List DocElement → List ℕ → Bool
is_made made name = list_any (is_called name) made

-- no assignment of the element leads to what isn't made
abbrev pub is_ready : List DocAssignment → List DocElement → DocElement → Bool
is_ready pairs made e = list_all (λ (p : DocAssignment). is_made made p.to) (filter (is_assigned e.name) pairs)

-- the others
abbrev pub without : DocElement → List DocElement → List DocElement
without e es = filter (λ d. not (is_called e.name d)) es

-- the element, and what comes after it
abbrev pub then_after : Option DocElement → (DocElement → List DocElement) → List DocElement
then_after None rest = []
then_after (Some e) rest = e ∷ rest e

-- once these are made: of the others, which stand by name, the first whose containers are all made, and so on, at most n
abbrev pub ordered : List DocAssignment → ℕ → List DocElement → List DocElement → List DocElement
ordered pairs zero made rest = []
ordered pairs (suc n) made rest =
    then_after (find (is_ready pairs made) rest) (λ e. ordered pairs n (made ++ e ∷ []) (without e rest))

-- all that can be made
abbrev pub order : List DocAssignment → List DocElement → List DocElement
order pairs es = ordered pairs (length es) opening_docs (sorted stands_before es)
