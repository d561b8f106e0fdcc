use Rattle.pm_print.proofs.Appending.{adds-as}
use Rattle.pm_print.proofs.Texts.{event_process}
use Rattle.pm_print.proofs.terms.add_event_process.Goals as goal

pub returns : goal.returns
returns c = adds-as _ _ _ _ _ event_process c.put.ensures
