use Rattle.std.proofs.Common.{subst}
use Rattle.pm_laws.specs.Meaning.{AreGivenBy}
use Rattle.pm_laws.proofs.Replayed.{legal_history}
use Rattle.pm_state.proofs.state.State.given.Goals as goal

pub returns : goal.returns
returns c = let r = c.replayed.ensures in subst AreGivenBy r.content (legal_history _ r.legal).given
