use Rattle.pm_laws.proofs.Responding.{responses_by_author}
use Rattle.pm_laws.proofs.responses_by_author.Goals as goal

pub returns : goal.returns
returns c = responses_by_author
