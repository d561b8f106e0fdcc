-- The project's own: what contracts see of a hand-off and of its two ends.
use Rattle.std.specs.Prelude.{◌≡◌, ℕ, List, length}
use Rattle.atomic_table.specs.Seated.{TableId}
use Rattle.pm_handoff.specs.Rule.{GiverSees, TakerSees}

-- which queue it is, and how many items may wait in it
pub record Queue : Type 0 where
  pub place : TableId
  pub capacity : ℕ

-- an end: its queue, the numbers that were given and those that were taken. The end that gives has all that were given and the first ones of those that were taken, the end that takes the other way round.
pub record End : Type 0 where
  pub place : TableId
  pub given : List ℕ
  pub taken : List ℕ

-- at one moment as many waited as may
abbrev pub WasFull : ℕ → End → Type 0
WasFull capacity giver = (waiting : List ℕ) × (length waiting ≡ capacity) × GiverSees giver.given giver.taken waiting

-- at one moment none waited
abbrev pub WasEmpty : End → Type 0
WasEmpty taker = (waiting : List ℕ) × (length waiting ≡ 0) × TakerSees taker.given taker.taken waiting
