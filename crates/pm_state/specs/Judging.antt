-- What a judge over a graph goes by.
use Rattle.std.specs.Prelude.{is_some}
use Rattle.pm_model.specs.State.{Graph, element_at}
use Rattle.pm_model.specs.Decision.{Judgement}
use Rattle.pm_model.specs.Reviews.{rights_in}

abbrev pub judgement_in : Graph → Judgement
judgement_in G = record { live = λ n. is_some (element_at G.elements n); rights = rights_in G }
