-- What the calls of a disk do to its file, and what a crash may leave between two syncs. The project's own.
use Rattle.std.specs.Prelude.{◌≡◌, ◌⊎◌, ℕ, ◌+◌, ◌-◌, ◌≤◌, max, min, List, ◌++◌, length, take, drop}

-- the first n bytes of the piece are the content's from this place on, and none only where it has none there
pub record Reads (content : List ℕ) (at : ℕ) (piece : List ℕ) (n : ℕ) : Type 0 where
  pub same : take n piece ≡ take n (drop at content)
  pub within : n ≤ length content - at
  pub ended : n ≡ 0 → length content ≤ at

-- new is old with these bytes at this place
abbrev pub Holds : List ℕ → ℕ → List ℕ → List ℕ → Type 0
Holds old at bytes new = new ≡ take at old ++ bytes ++ drop (at + length bytes) old

-- after a write of n bytes that a crash cuts short: any bytes in the range and past the old end, the same elsewhere
pub record Torn (at n : ℕ) (old new : List ℕ) : Type 0 where
  pub before : take at new ≡ take at old
  pub after : drop (at + n) new ≡ drop (at + n) old
  pub no_shorter : length old ≤ length new
  pub no_longer : length new ≤ max (length old) (at + n)

-- after a cut: some length between, where it was as long
pub record Cut (n : ℕ) (old new : List ℕ) : Type 0 where
  pub no_shorter : min n (length old) ≤ length new
  pub front : take (length new) old ≡ new

-- each image after it is an image before it after a step
abbrev pub Follows : (List ℕ → List ℕ → Type 0) → (List ℕ → Type 0) → (List ℕ → Type 0) → Type 0
Follows step old new = (c : List ℕ) → new c → (d : List ℕ) × old d × step d c

-- each image has P
abbrev pub Each : (List ℕ → Type 0) → (List ℕ → Type 0) → Type 0
Each images P = (c : List ℕ) → images c → P c

-- Time goes on: a crash since t might have left what it might have left before, or what it may leave now.
pub record Elapses (before now : ℕ) (past since : ℕ → List ℕ → Type 0) (images : List ℕ → Type 0) : Type 0 where
  pub later : before ≤ now
  pub nothing_else : (t : ℕ) (c : List ℕ) → t ≤ before → since t c → past t c ⊎ images c
  pub keeps : (t : ℕ) (c : List ℕ) → t ≤ before → past t c → since t c

-- a crash at any moment since old leaves a file that has P
pub record Leaves {D : Type 0} (moment : D → ℕ) (left_since : D → ℕ → List ℕ → Type 0) (old new : D) (P : List ℕ → Type 0) : Type 0 where
  pub later : moment old ≤ moment new
  pub each : (c : List ℕ) → left_since new (moment old) c → P c
  -- for a run that began earlier
  pub before : (t : ℕ) (c : List ℕ) → t ≤ moment old → left_since new t c → left_since old t c ⊎ P c

-- reads alone: the content stays, and a crash leaves what it might have left
pub record Stays {D : Type 0} (content_of : D → List ℕ) (may_leave : D → List ℕ → Type 0) (moment : D → ℕ) (left_since : D → ℕ → List ℕ → Type 0) (old new : D) : Type 0 where
  pub content : content_of new ≡ content_of old
  pub crash : Each (may_leave new) (may_leave old)
  pub moments : Leaves moment left_since old new (may_leave old)

-- the front of the piece is what the content has there, as far as the piece goes
pub record Fills (content : List ℕ) (at : ℕ) (piece : List ℕ) (n : ℕ) : Type 0 where
  pub same : take n piece ≡ take n (drop at content)
  pub count : n ≡ min (length piece) (length content - at)
