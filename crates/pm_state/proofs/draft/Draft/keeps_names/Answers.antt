use Rattle.std.proofs.Common.{subst}
use Rattle.std.proofs.lemmas.Bool.{not-true}
use Rattle.pm_model.specs.History.{replay}
use Rattle.pm_state.specs.Drafted.{Drafted}
use Rattle.pm_state.specs.Leaving.{AreNamesKept}
use Rattle.pm_state.proofs.draft.Draft.keeps_names.Goals as goal

pub returns : goal.returns
returns c = λ yes.
    subst (λ (D : Drafted). AreNamesKept (replay D.history).graph D.graph) c.self.view_is
    (c.self.invariant.names (not-true c.self.inside.deleted yes))
