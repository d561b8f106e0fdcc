use Rattle.pm_laws.proofs.Responding.{responders_match}
use Rattle.pm_laws.proofs.responders_match.Goals as goal

pub returns : goal.returns
returns c = responders_match
