-- Containment in a graph, as whoever asks it sees it.
use Rattle.std.specs.Prelude.{is_some}
use Rattle.pm_model.specs.State.{Graph, element_at}
use Rattle.pm_model.specs.Containment.{Relation, contained}

abbrev pub relation_in : Graph → Relation
relation_in G = record { live = λ n. is_some (element_at G.elements n); below = contained G.assigned }
