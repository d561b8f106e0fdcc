-- A slot for each number: free, or with an element, what it is assigned to, and how many are assigned to it.
use Rattle.std.specs.Prelude.{ℕ, not, ◌+◌, ◌-◌, ◌==◌, List, [], ◌∷◌, ◌++◌, map, filter, Option, Some, None, option_map, option_to_list, unwrap_or, slice_get, slice_set, length, nat_lt, if◌then◌else◌}
use Rattle.std.proofs.Common.{suc}
use Rattle.pm_model.specs.State.{element}
use Rattle.pm_model.specs.declared.elements.Element.{Element}
use Rattle.pm_model.specs.declared.elements.Kind.{Kind}
use Rattle.pm_elements.specs.declared.slots.Slot.{Slot}

-- the slot of a number, where it is taken
abbrev pub slot_at : List (Option Slot) → ℕ → Option Slot
slot_at slots n = unwrap_or (slice_get slots n) None

abbrev pub element_of : ℕ → Slot → Element
element_of n s = element n s.kind s.name

-- the elements of the slots, of which the first has number n
abbrev pub shown_from : ℕ → List (Option Slot) → List Element
shown_from n [] = []
shown_from n (None ∷ slots) = shown_from (n + 1) slots
shown_from n (Some s ∷ slots) = element_of n s ∷ shown_from (n + 1) slots

abbrev pub shown : List (Option Slot) → List Element
shown slots = shown_from 0 slots

-- the first slot that is free, or one past the last
abbrev pub first_free : List (Option Slot) → ℕ
first_free [] = 0
first_free (None ∷ slots) = 0
first_free (Some s ∷ slots) = suc (first_free slots)

abbrev pub parents_of : Option Slot → List ℕ
parents_of None = []
parents_of (Some s) = s.parents

abbrev pub children_of : Option Slot → ℕ
children_of None = 0
children_of (Some s) = s.children

-- the assignments of a number to these
abbrev pub each_from : ℕ → List ℕ → List (ℕ × ℕ)
each_from n ys = map (λ y. (n, y)) ys

-- the assignments of the slots, of which the first has number n
abbrev pub pairs_from : ℕ → List (Option Slot) → List (ℕ × ℕ)
pairs_from n [] = []
pairs_from n (o ∷ slots) = each_from n (parents_of o) ++ pairs_from (n + 1) slots

abbrev pub pairs_of : List (Option Slot) → List (ℕ × ℕ)
pairs_of slots = pairs_from 0 slots

-- ---- writes

-- the slot of a number changed, where it is taken
abbrev pub edited : (Slot → Slot) → ℕ → List (Option Slot) → List (Option Slot)
edited f n slots = slice_set slots n (option_map f (slot_at slots n))

abbrev pub with_parent : ℕ → Slot → Slot
with_parent y s = record s { parents = s.parents ++ y ∷ [] }

abbrev pub without_parent : ℕ → Slot → Slot
without_parent y s = record s { parents = filter (λ z. not (z == y)) s.parents }

abbrev pub with_child : Slot → Slot
with_child s = record s { children = s.children + 1 }

abbrev pub without_child : Slot → Slot
without_child s = record s { children = s.children - 1 }

-- x assigned to y
abbrev pub linked : ℕ → ℕ → List (Option Slot) → List (Option Slot)
linked x y slots = edited with_child y (edited (with_parent y) x slots)

-- x no more assigned to y
abbrev pub unlinked : ℕ → ℕ → List (Option Slot) → List (Option Slot)
unlinked x y slots = edited without_child y (edited (without_parent y) x slots)

-- the slots with one of this number: one past the last is a free slot more
abbrev pub opened : ℕ → List (Option Slot) → List (Option Slot)
opened n slots = if nat_lt n (length slots) then slots else slots ++ None ∷ []

-- a new element, to which nothing is assigned
abbrev pub new_slot : Kind → List ℕ → Option ℕ → Slot
new_slot kind name into = record { kind = kind; name = name; parents = option_to_list into; children = 0 }

-- the container of a new element has one child more
abbrev pub joined : Option ℕ → List (Option Slot) → List (Option Slot)
joined None slots = slots
joined (Some y) slots = edited with_child y slots

-- each of these has one child less
abbrev pub released : List ℕ → List (Option Slot) → List (Option Slot)
released [] slots = slots
released (y ∷ ys) slots = released ys (edited without_child y slots)

-- the slot of a number free, and one child less of each that it was assigned to
abbrev pub removed : ℕ → List (Option Slot) → List (Option Slot)
removed n slots = released (parents_of (slot_at slots n)) (slice_set slots n None)
