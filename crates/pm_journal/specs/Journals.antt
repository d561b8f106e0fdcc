-- What a journal keeps, and what a crash may leave of it. The project's own.
use Rattle.std.specs.Prelude.{◌≡◌, ◌⊎◌, ℕ, zero, suc, ◌+◌, ◌-◌, ◌*◌, ◌<◌, ◌≤◌, List, [], ◌∷◌, ◌++◌, length, take, drop, Option, None, Some, IfSome}
use Rattle.pm_disk.specs.Disks.{Each}
use Rattle.pm_journal.specs.Notes.{Note, note_of, notes_in}
use Rattle.pm_journal.specs.Images.{Stands, Rests, Doubts, IsBody, IsFront}

-- its disk; the notes that it keeps; one that it could not keep, and that a crash may leave nonetheless; and how many it keeps
pub record Journaled (D : Type 0) : Type 0 where
  pub disk : D
  pub kept : List Note
  pub lost : Option Note
  pub count : ℕ

-- ---- of what the disk holds

abbrev pub found : Option (List Note) → List Note
found None = []
found (Some notes) = notes

-- the notes of so many records behind the header
abbrev pub kept_in : ℕ → List ℕ → List Note
kept_in k begin = found (notes_in k (drop 8 begin))

-- where a gate is in doubt, what stands behind it, whose length is told with that of a closed gate
abbrev pub lost_in : ℕ → List ℕ → Option Note
lost_in zero behind = None
lost_in (suc n) behind = Some (note_of (take n behind))

-- the last gate is closed; or it is in doubt, with a whole body behind it
abbrev pub AreImages : List ℕ → (List ℕ → Type 0) → ℕ → ℕ → Type 0
AreImages content images e zero = Each images (Rests e (take e content))
AreImages content images e (suc n) =
    IsBody (take n (drop (e + 1) content)) × (length (take n (drop (e + 1) content)) ≡ n)
    × Each images (Doubts e (take e content) (take n (drop (e + 1) content)))

-- a record whose gate is in doubt has its place
abbrev pub HasRoom : ℕ → ℕ → Type 0
HasRoom k zero = Unit {0}
HasRoom k (suc n) = k < 262144

pub record IsSound (content : List ℕ) (may_leave : List ℕ → Type 0) (e k n : ℕ) : Type 0 where
  pub front : IsFront e k (take e content) (kept_in k (take e content))
  pub images : AreImages content may_leave e n
  pub room : HasRoom k n

-- how far its numbers go
pub record IsPlaced (e k n : ℕ) : Type 0 where
  pub end : e ≤ 8 + 8209 * k
  pub count : k ≤ 262144
  pub doubt : n ≤ 8209

-- ---- what the bytes may stand for

-- what is kept and the one that was lost
abbrev pub IsOneMore : List Note → Option Note → List ℕ → Type 0
IsOneMore kept None bytes = ⊥
IsOneMore kept (Some note) bytes = Stands (kept ++ note ∷ []) bytes

-- what is kept, or that and the one that was lost
abbrev pub StandsFor : List Note → Option Note → List ℕ → Type 0
StandsFor kept lost bytes = Stands kept bytes ⊎ IsOneMore kept lost bytes

-- the same, or that and this one
abbrev pub StandsForAny : List Note → Option Note → Note → List ℕ → Type 0
StandsForAny kept lost note bytes = StandsFor kept lost bytes ⊎ Stands (kept ++ note ∷ []) bytes

-- bytes to be put behind a gate: a body, and a closed gate
pub record IsPiece (piece : List ℕ) : Type 0 where
  pub split : piece ≡ take (length piece - 1) piece ++ 0 ∷ []
  pub body : IsBody (take (length piece - 1) piece)

abbrev pub noted : List ℕ → Note
noted piece = note_of (take (length piece - 1) piece)

-- after a call for this note that failed: nothing is lost, or what was lost before, or this one
abbrev pub MayBeLost : Option Note → Note → Option Note → Type 0
MayBeLost before note now = (now ≡ None) ⊎ (now ≡ before) ⊎ (now ≡ Some note)

abbrev pub written : ℕ → ℕ → List ℕ → Note
written seat nth line = record { seat = seat; nth = nth; line = line }
