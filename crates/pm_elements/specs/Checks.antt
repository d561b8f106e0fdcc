-- What the calls of the table alone refuse, and what its questions answer.
use Rattle.std.specs.Prelude.{ℕ, Bool, nat_le, List, [], ◌∷◌, length, Option, option_map, find}
use Rattle.std.specs.List.{list_any}
use Rattle.pm_model.specs.State.{is_named}
use Rattle.pm_model.specs.Effect.{max_elements, has_child}
use Rattle.pm_model.specs.declared.elements.Element.{Element}
use Rattle.pm_model.specs.declared.replies.Refusal.{Refusal}
use Rattle.pm_model.specs.declared.replies.Refusal.TheVariants.{NameTaken, Occupied, Full}
use Rattle.pm_model.specs.declared.replies.Table.TheVariants.{Elements}

-- an element without a container
abbrev pub add_checks : List Element → List ℕ → List (Bool × Refusal)
add_checks es name = (list_any (is_named name) es, NameTaken) ∷ (nat_le max_elements (length es), Full Elements) ∷ []

abbrev pub remove_checks : List (ℕ × ℕ) → ℕ → List (Bool × Refusal)
remove_checks pairs y = (has_child pairs y, Occupied) ∷ []

abbrev pub is_at_least : ℕ → Element → Bool
is_at_least n e = nat_le n e.number

-- the least live number that is at least n, of elements by rising number
abbrev pub least_from : List Element → ℕ → Option ℕ
least_from es n = option_map (λ (e : Element). e.number) (find (is_at_least n) es)
