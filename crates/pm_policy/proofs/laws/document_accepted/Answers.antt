use Rattle.pm_policy.proofs.Law.{document_accepted}
use Rattle.pm_policy.proofs.laws.document_accepted.Goals as goal

pub returns : goal.returns
returns c = document_accepted
