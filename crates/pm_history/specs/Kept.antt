-- A history as callers see it, and how it is kept.
use Rattle.std.specs.Prelude.{◌≤◌, ℕ, List, take, length}
use Rattle.pm_model.specs.Answer.{longest_history}
use Rattle.pm_model.specs.declared.requests.Entry.{Entry}
use Rattle.pm_history.specs.declared.History.TheInside.{Inside}

-- the entries, and how many there may be
pub record Limited : Type 0 where
  pub entries : List Entry
  pub limit : ℕ

abbrev pub limited_of : Inside → Limited
limited_of h = record { entries = take h.count h.entries.items; limit = h.limit }

pub record IsKept (h : Inside) : Type 0 where
  pub held : h.count ≤ length h.entries.items
  pub within : h.count ≤ h.limit
  pub most : h.limit ≤ longest_history
