-- The entries that a journal keeps, as it tells them, and what a crash may leave of them. The project's own.
use Rattle.std.specs.Prelude.{◌≡◌, ◌⊎◌, ℕ, Bool, true, false, List, [], ◌∷◌, ◌++◌, map, Option, None, Some}
use Rattle.pm_model.specs.declared.requests.Entry.{Entry}
use Rattle.pm_journal.specs.Images.{Stands}
use Rattle.pm_journal.specs.Journals.{StandsFor}
use Rattle.pm_journal.specs.Notes.{Note, entry_of}

-- what is kept, where the disk tells it
abbrev pub told_entries : Bool → List Note → Option (List Entry)
told_entries true notes = Some (map entry_of notes)
told_entries false notes = None

-- the bytes stand for what is kept, or for that and the one that was lost, or for that and this entry
abbrev pub StandsForEntry : List Note → Option Note → Entry → List ℕ → Type 0
StandsForEntry kept lost entry bytes = StandsFor kept lost bytes ⊎ ((note : Note) × (entry_of note ≡ entry) × Stands (kept ++ note ∷ []) bytes)

-- the bytes stand for these entries, in order, or for these and one more
abbrev pub IsRecovered : List Entry → List ℕ → Type 0
IsRecovered entries bytes = (notes : List Note) × Stands notes bytes × ((map entry_of notes ≡ entries) ⊎ ((e : Entry) × (map entry_of notes ≡ entries ++ e ∷ [])))
