use Rattle.pm_document_laws.proofs.Asking.{requests_are_askable}
use Rattle.pm_document_laws.proofs.requests_are_askable.Goals as goal

pub returns : goal.returns
returns c = requests_are_askable
