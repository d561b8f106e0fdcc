-- How the table is kept: its slots, and the numbers by name.
use Rattle.std.specs.Prelude.{◌≡◌, ◌≤◌, ◌&&◌, ℕ, List, length, count_by, Option, Some, option_map, bytes_eq}
use Rattle.std.specs.Map.{lookup}
use Rattle.pm_model.specs.State.{element_at}
use Rattle.pm_model.specs.Formed.{Each}
use Rattle.pm_model.specs.declared.elements.Element.{Element}
use Rattle.pm_elements.specs.declared.slots.Slot.{Slot}
use Rattle.pm_elements.specs.declared.table.Elements.TheInside.{Inside}
use Rattle.pm_model.specs.Effect.{max_elements, max_assignments, is_pair, is_to}
use Rattle.pm_elements.specs.Listed.{Listed}
use Rattle.pm_elements.specs.Slots.{shown, pairs_of, slot_at, children_of, first_free}

abbrev pub listed : Inside → Listed
listed t = record { elements = shown t.slots.items; assigned = pairs_of t.slots.items; alone = t.slots.alone && t.names.alone }

-- each slot counts what is assigned to it, and no assignment stands twice
pub record Held (slots : List (Option Slot)) : Type 0 where
  pub children : (y : ℕ) → children_of (slot_at slots y) ≡ count_by (is_to y) (pairs_of slots)
  pub once : (x y : ℕ) → count_by (is_pair x y) (pairs_of slots) ≤ 1

-- each element's name leads to its number, and what a name leads to has that name
pub record Named (es : List Element) (names : List (List ℕ × ℕ)) : Type 0 where
  pub known : Each (λ e. lookup (bytes_eq e.name) names ≡ Some e.number) es
  pub found : (name : List ℕ) (n : ℕ) → lookup (bytes_eq name) names ≡ Some n → option_map (λ (e : Element). e.name) (element_at es n) ≡ Some name

pub record Kept (slots : List (Option Slot)) (names : List (List ℕ × ℕ)) (live links : ℕ) : Type 0 where
  pub held : Held slots
  pub named : Named (shown slots) names
  pub counted : live ≡ length (shown slots)
  pub linked : links ≡ length (pairs_of slots)
  pub few : length slots ≤ max_elements
  pub few_links : links ≤ max_assignments

pub record IsKept (t : Inside) : Type 0 where
  pub kept : Kept t.slots.items t.names.items t.live t.links
  -- no number below this one is free
  pub taken : t.free_from ≤ first_free t.slots.items
