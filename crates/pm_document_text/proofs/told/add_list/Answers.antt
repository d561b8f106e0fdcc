use Rattle.std.proofs.Common.{map}
use Rattle.pm_print.proofs.Appending.{adds-as}
use Rattle.pm_print.proofs.ItemTexts.{list_text}
use Rattle.pm_document_text.proofs.told.add_list.Goals as goal

pub returns : goal.returns
returns g c = adds-as _ _ _ _ _ (list_text (map g.T.Told.told c.args.items.now)) c.add_bracketed.ensures
