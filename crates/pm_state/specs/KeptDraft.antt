-- What every draft keeps: the history that it began from is legal, and the lists, where it has them, are those of its kept
-- reviews, and know what they were in the graph that it began from; and where no element was deleted in it, the names of that graph.
use Rattle.std.specs.Prelude.{◌≡◌, ◌<◌, ◌^◌, false, is_some, IfSome}
use Rattle.pm_model.specs.Answer.{longest_history}
use Rattle.pm_model.specs.History.{IsLegal, replay}
use Rattle.pm_affect.specs.Lists.{Lists}
use Rattle.pm_affect.specs.Right.{WereLists}
use Rattle.pm_state.specs.Drafted.{Drafted, asked_of}
use Rattle.pm_state.specs.Leaving.{AreNamesKept}
use Rattle.pm_state.specs.Listing.{AreListed}
use Rattle.pm_state.specs.declared.draft.Draft.TheInside.{Inside}

abbrev pub drafted_of : Inside → Drafted
drafted_of d = record { graph = d.graph; history = d.history.entries; asked = asked_of d.lists; written = d.rows; whole = is_some d.lists }

pub record IsDraft (d : Inside) : Type 0 where
  pub legal : IsLegal d.history.entries
  pub limit : d.history.limit ≡ longest_history
  pub listed : IfSome d.lists (λ (L : Lists). AreListed L d.graph)
  pub were : IfSome d.lists (λ (L : Lists). WereLists (replay d.history.entries).graph L)
  pub few : d.rows < 2 ^ 64
  pub names : d.deleted ≡ false → AreNamesKept (replay d.history.entries).graph d.graph
