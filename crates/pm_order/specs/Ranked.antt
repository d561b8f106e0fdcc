-- The order of elements by their places in a list. The project's own.
use Rattle.std.specs.Prelude.{ℕ, zero, suc, ◌+◌, ◌<◌, ◌≤◌, ◌≡◌, ◌↔◌, ◌⊎◌, Bool, true, false, not, nat_lt, ◌==◌, ◌&&◌, ◌||◌, List, [], ◌∷◌, length, map, filter, get_or, slice_get, slice_set, Contains, Option, None, Some, option_map, if◌then◌else◌}
use Rattle.std.specs.List.{list_all}
use Rattle.pm_model.specs.declared.elements.Kind.TheVariants.{Pc}
use Rattle.pm_policy.specs.Policy.{doc_element, is_assigned, is_called}
use Rattle.pm_policy.specs.declared.policy.DocElement.{DocElement}
use Rattle.pm_policy.specs.declared.policy.DocAssignment.{DocAssignment}
use Rattle.pm_policy.specs.Requests.{first_assignment}
use Rattle.pm_order.specs.declared.creation.Turn.{Turn}

-- ---- places

-- the place of the element of a name, from 0
abbrev pub place : List DocElement → List ℕ → ℕ
place [] name = 0
place (e ∷ es) name = if is_called name e then 0 else suc (place es name)

-- the element at a place that there is
abbrev pub element_in : List DocElement → ℕ → DocElement
element_in es k = get_or es k (doc_element Pc [])

-- the places of what an element is assigned to
abbrev pub containers_of : List DocElement → List DocAssignment → DocElement → List ℕ
containers_of es pairs e = map (λ (p : DocAssignment). place es p.to) (filter (is_assigned e.name) pairs)

-- these of each element
abbrev pub containers : List DocElement → List DocAssignment → List (List ℕ)
containers es pairs = map (containers_of es pairs) es

-- each of these places is one that there is
abbrev pub AreWithin : List (List ℕ) → Type 0
AreWithin above = (i k : ℕ) → Contains (get_or above i []) k → k < length above

-- each of these places has the item in its list too, and nothing else has come
abbrev pub AreAdded : ℕ → List ℕ → List (List ℕ) → List (List ℕ) → Type 0
AreAdded item places before now =
    (length now ≡ length before) × ((k i : ℕ) → Contains (get_or now k []) i ↔ (Contains (get_or before k []) i ⊎ ((i ≡ item) × Contains places k)))

-- what has each for a container
abbrev pub AreChildren : List (List ℕ) → List (List ℕ) → Type 0
AreChildren below above = (k i : ℕ) → Contains (get_or below k []) i ↔ Contains (get_or above i []) k

-- no element is made with one more assignment of that at a place: it is one of the first ones, which stand already, or has a
-- container
abbrev pub is_other : ℕ → ℕ → List ℕ → Bool
is_other first k containers = nat_lt k first || not (length containers == 0)

-- ---- the order

-- the element at the place isn't made, and its containers are
abbrev pub can_make : List Bool → ℕ → List ℕ → Bool
can_make made i above = not (get_or made i false) && list_all (λ k. get_or made k false) above

-- there is the place, and it can be made there
abbrev pub IsFree : List (List ℕ) → List Bool → ℕ → Type 0
IsFree above made i = (i < length above) × (can_make made i (get_or above i []) ≡ true)

-- these are all such places
abbrev pub AreFree : List ℕ → List (List ℕ) → List Bool → Type 0
AreFree places above made = (i : ℕ) → Contains places i ↔ IsFree above made i

-- the place is taken out of these, with some that are made: of those that aren't it is the least
pub record IsTaken (k : ℕ) (made : List Bool) (old new : List ℕ) : Type 0 where
  pub there : Contains old k
  pub unmade : get_or made k false ≡ false
  pub least : (i : ℕ) → Contains old i → get_or made i false ≡ false → k ≤ i
  pub kept : (i : ℕ) → Contains old i → get_or made i false ≡ false → (k ≡ i) ⊎ Contains new i
  pub within : (i : ℕ) → Contains new i → Contains old i

-- no further element can be made
abbrev pub IsStuck : List (List ℕ) → List Bool → Type 0
IsStuck above made = (i : ℕ) → IsFree above made i → ⊥

-- these are made in the end, whatever the order
abbrev pub AreDue : List (List ℕ) → List Bool → Type 0
AreDue above made = (end : List Bool) → IsStuck above end → (i : ℕ) → get_or made i false ≡ true → get_or end i false ≡ true

-- the first place from i on at which it can be made; the containers of each stand in its place
abbrev pub first_from : ℕ → List Bool → List (List ℕ) → Option ℕ
first_from i made [] = None
first_from i made (above ∷ rest) = if can_make made i above then Some i else first_from (i + 1) made rest

abbrev pub then_ranks : Option ℕ → (ℕ → List ℕ) → List ℕ
then_ranks None rest = []
then_ranks (Some k) rest = k ∷ rest k

-- always the first place at which it can be made, at most n of them
abbrev pub ranked : List (List ℕ) → ℕ → List Bool → List ℕ
ranked above zero made = []
ranked above (suc n) made = then_ranks (first_from 0 made above) (λ k. ranked above n (slice_set made k true))

-- ---- turns

-- an element, and what the first of its assignments leads to
abbrev pub turn : List DocAssignment → DocElement → Turn
turn pairs e = record { element = e; into = option_map (λ (p : DocAssignment). p.to) (first_assignment pairs e.name) }

-- the same of the element at a place, by the containers of each
abbrev pub into_at : List DocElement → List (List ℕ) → ℕ → Option (List ℕ)
into_at es above k = option_map (λ j. (element_in es j).name) (slice_get (get_or above k []) 0)

abbrev pub turn_at : List DocElement → List (List ℕ) → ℕ → Turn
turn_at es above k = record { element = element_in es k; into = into_at es above k }
