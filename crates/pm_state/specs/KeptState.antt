-- What every state keeps: the history is legal, what it leads to is the state, the lists are those of its kept reviews, and
-- they tell how many rights the history has had judged for such; and how many rows it has written. The graph keeps well formed by
-- itself.
use Rattle.std.specs.Prelude.{◌≡◌}
use Rattle.pm_model.specs.Answer.{longest_history}
use Rattle.pm_model.specs.History.{Machine, IsReplayed}
use Rattle.pm_affect.specs.Counting.{Judged, Written, capped, work_in}
use Rattle.pm_state.specs.Listing.{AreListed}
use Rattle.pm_state.specs.declared.state.State.TheInside.{Inside}

abbrev pub machine_of : Inside → Machine
machine_of s = record { graph = s.graph; history = s.history.entries }

pub record IsState (s : Inside) : Type 0 where
  pub replayed : IsReplayed (machine_of s)
  pub limit : s.history.limit ≡ longest_history
  pub listed : AreListed s.lists s.graph
  pub asked : s.lists.asked ≡ capped (work_in Judged s.history.entries)
  pub written : s.rows ≡ capped (work_in Written s.history.entries)
