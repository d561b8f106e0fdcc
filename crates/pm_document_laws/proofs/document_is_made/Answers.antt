use Rattle.pm_document_laws.proofs.Asking.{document_is_made}
use Rattle.pm_document_laws.proofs.document_is_made.Goals as goal

pub returns : goal.returns
returns c = document_is_made
