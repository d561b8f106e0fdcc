-- The policy classes, by rising number.
use Rattle.std.specs.Prelude.{ℕ, List, [], ◌∷◌, not, ◌==◌, nat_lt, filter, if◌then◌else◌}
use Rattle.pm_model.specs.State.{is_class_kind}
use Rattle.pm_model.specs.declared.elements.Kind.{Kind}
use Rattle.pm_model.specs.declared.requests.Change.{Change}
use Rattle.pm_model.specs.declared.requests.Change.TheVariants.{Create, Delete}

-- the list with this number before the first higher one
abbrev pub placed_number : ℕ → List ℕ → List ℕ
placed_number n [] = n ∷ []
placed_number n (m ∷ ms) = if nat_lt n m then n ∷ m ∷ ms else m ∷ placed_number n ms

-- the classes with a new element of this kind and number, where it is one
abbrev pub with_class : Kind → ℕ → List ℕ → List ℕ
with_class kind n ms = if is_class_kind kind then placed_number n ms else ms

-- the list without this number
abbrev pub without_number : ℕ → List ℕ → List ℕ
without_number n ms = filter (λ m. not (m == n)) ms

-- the classes once the change is made
abbrev pub classes_after : Change → List ℕ → List ℕ
classes_after (Create id kind name into) ms = with_class kind id ms
classes_after (Delete id) ms = without_number id ms
classes_after _ ms = ms
