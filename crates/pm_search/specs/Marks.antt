-- What the marks of a search say.
use Rattle.std.specs.Prelude.{◌≡◌, ◌==◌, ℕ, Bool, false, List, take, slice_index_or}
use Rattle.std.specs.List.{list_any}
use Rattle.pm_model.specs.Containment.{contained}

-- no element is marked
abbrev pub NoneMarked : List Bool → Type 0
NoneMarked marks = (z : ℕ) → slice_index_or marks z false ≡ false

-- an element is marked exactly where it is among the queue's first
abbrev pub MarksQueued : List Bool → List ℕ → ℕ → Type 0
MarksQueued marks queue end = (z : ℕ) → slice_index_or marks z false ≡ list_any (λ n. n == z) (take end queue)

-- an element is marked exactly where x is contained in it
abbrev pub MarksAbove : List (ℕ × ℕ) → ℕ → List Bool → Type 0
MarksAbove assigned x marks = (y : ℕ) → slice_index_or marks y false ≡ contained assigned x y
