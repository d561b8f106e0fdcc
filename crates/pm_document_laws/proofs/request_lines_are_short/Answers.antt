use Rattle.pm_document_laws.proofs.Short.{request_lines_are_short}
use Rattle.pm_document_laws.proofs.request_lines_are_short.Goals as goal

pub returns : goal.returns
returns c = request_lines_are_short
