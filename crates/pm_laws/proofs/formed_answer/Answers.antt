use Rattle.pm_laws.proofs.Kept.{formed-answer}
use Rattle.pm_laws.proofs.formed_answer.Goals as goal

pub returns : goal.returns
returns c = formed-answer
