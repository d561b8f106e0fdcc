-- What every graph keeps.
use Rattle.std.specs.Prelude.{◌≡◌}
use Rattle.pm_model.specs.State.{Graph, classes_in}
use Rattle.pm_model.specs.Formed.{IsWellFormed}
use Rattle.pm_state.specs.Shown.{graph_of}
use Rattle.pm_state.specs.declared.graph.Graph.TheInside.{Inside}

abbrev pub shown_of : Inside → Graph
shown_of g = graph_of g.tables.value

pub record IsGraph (g : Inside) : Type 0 where
  pub formed : IsWellFormed (shown_of g)
  pub classes : g.tables.value.classes ≡ classes_in (shown_of g).elements
