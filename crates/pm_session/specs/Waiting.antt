-- The bytes that wait.
use Rattle.std.specs.Prelude.{◌≡◌, ◌≤◌, ◌+◌, ℕ, List, ◌++◌, length}
use Rattle.pm_model.specs.Lines.{shape}
use Rattle.pm_session.specs.Cuts.{open_line}

-- they are kept as lines are, and the open line has this length
pub record IsWaiting (bytes : List ℕ) (tail : ℕ) : Type 0 where
  pub shaped : shape bytes ≡ bytes
  pub opened : length (open_line bytes) ≡ tail

-- these bytes have come behind the old ones, and the open line has this length now
pub record HasPushed (old new : List ℕ) (tail : ℕ) (bytes : List ℕ) : Type 0 where
  pub shaped : new ≡ shape (old ++ bytes)
  pub kept : IsWaiting new tail
  pub short : length new ≤ length old + length bytes
