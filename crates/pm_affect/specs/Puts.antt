-- Rights put into lists: one pair into one list, and the pairs that were judged into all of them. The project's own.
use Rattle.std.specs.Prelude.{ℕ, zero, suc, ◌+◌, ◌/◌, ◌==◌, nat_lt, Bool, true, false, ◌&&◌, ◌||◌, not, if◌then◌else◌, List, [], ◌∷◌, length, map, filter}
use Rattle.pm_model.specs.Reviews.{pair}
use Rattle.pm_model.specs.declared.reviews.Pair.{Pair}
use Rattle.pm_affect.specs.Lists.{Listed, Lists}
use Rattle.pm_affect.specs.Right.{rights_at}
use Rattle.pm_affect.specs.declared.region.Region.{Region}
use Rattle.pm_affect.specs.declared.region.Region.TheVariants.{One}

-- ---- one list

-- the pair before the others, unless its rights are empty
abbrev pub unless_empty : ℕ → ℕ → List Pair → List Pair
unless_empty n r ps = if r == 0 then ps else pair n r ∷ ps

-- the list with these rights at the number n, behind lower ones
abbrev pub put : ℕ → ℕ → List Pair → List Pair
put n r [] = unless_empty n r []
put n r (p ∷ ps) = if nat_lt p.element n then p ∷ put n r ps else if p.element == n then unless_empty n r ps else unless_empty n r (p ∷ ps)

abbrev pub elements_of : List Pair → List ℕ
elements_of ps = map (λ (p : Pair). p.element) ps

-- the list with each pair of a row, put one after another
abbrev pub put_all : List Pair → List Pair → List Pair
put_all [] ps = ps
put_all (q ∷ row) ps = put_all row (put q.element q.rights ps)

-- each number is higher than those before it, and at least `low`
abbrev pub rises : ℕ → List ℕ → Bool
rises low [] = true
rises low (n ∷ ns) = not (nat_lt n low) && rises (n + 1) ns

-- the list begins with a pair of a number below n
abbrev pub starts_lower : ℕ → List Pair → Bool
starts_lower n [] = false
starts_lower n (p ∷ ps) = nat_lt p.element n

-- the pair isn't what the list has
abbrev pub is_change : List Pair → Pair → Bool
is_change ps q = not (rights_at ps q.element == q.rights)

-- so many pairs are always put one by one
abbrev pub few : ℕ
few = 8

-- the row is worth a walk along all of the list: it is longer than that, and not much shorter than the list or more of its pairs are
-- changes
abbrev pub is_worth : List Pair → List Pair → Bool
is_worth ps row = nat_lt few (length row) && (nat_lt (length ps / 8) (length row) || nat_lt few (length (filter (is_change ps) row)))

-- how many numbers stand before the place of n
abbrev pub place : ℕ → List ℕ → ℕ
place n [] = 0
place n (m ∷ ms) = if nat_lt m n then suc (place n ms) else 0

-- the list without the pair at place i, where it is of n
abbrev pub without_at : ℕ → ℕ → List Pair → List Pair
without_at n i [] = []
without_at n zero (p ∷ ps) = if p.element == n then ps else p ∷ ps
without_at n (suc i) (p ∷ ps) = p ∷ without_at n i ps

-- ---- one of several lists

abbrev pub with_put : ℕ → ℕ → Listed → Listed
with_put n r k = record k { pairs = put n r k.pairs }

-- the list with these rights at the number n, where it is of the subject
abbrev pub put_at : ℕ → ℕ → ℕ → Listed → Listed
put_at subject n r k = if k.subject == subject then with_put n r k else k

abbrev pub with_all : List Pair → Listed → Listed
with_all row k = record k { pairs = put_all row k.pairs }

-- the list with each pair of the row, where it is of the subject
abbrev pub put_all_at : ℕ → List Pair → Listed → Listed
put_all_at subject row k = if k.subject == subject then with_all row k else k

-- the item at place i is changed
abbrev pub edited : {X : Type 0} → (X → X) → ℕ → List X → List X
edited f i [] = []
edited f zero (x ∷ xs) = f x ∷ xs
edited f (suc i) (x ∷ xs) = x ∷ edited f i xs

-- ---- all lists

-- with the rights of the user n in the list of each element of a row
abbrev pub put_across : ℕ → List Pair → List Listed → List Listed
put_across n [] ks = ks
put_across n (q ∷ row) ks = put_across n row (map (put_at q.element n q.rights) ks)

-- with those on each element of a row, in each list that has the pair in its scope
abbrev pub with_row : ℕ → List Pair → Lists → Lists
with_row u row L = record L { caps = map (put_all_at u row) L.caps; entries = put_across u row L.entries }

-- each number, with its rights
abbrev pub judged_pairs : (ℕ → ℕ) → List ℕ → List Pair
judged_pairs rights ns = map (λ n. pair n (rights n)) ns

-- with the rights of a pair in each list that has it in its scope
abbrev pub with_rights : ℕ → ℕ → ℕ → Lists → Lists
with_rights u e r L = record L { caps = map (put_at u e r) L.caps; entries = map (put_at e u r) L.entries }

-- with those of each of the pairs
abbrev pub put_each : (ℕ → ℕ → ℕ) → List (ℕ × ℕ) → Lists → Lists
put_each rights [] L = L
put_each rights (q ∷ qs) L = put_each rights qs (with_rights q.0 q.1 (rights q.0 q.1) L)

-- without the element that was made or is gone
abbrev pub cleared : Region → Lists → Lists
cleared (One x) L = record L { caps = map (with_put x 0) L.caps; entries = map (with_put x 0) L.entries }
cleared _ L = L
