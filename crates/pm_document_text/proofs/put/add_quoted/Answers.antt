use Rattle.pm_print.proofs.Appending.{adds-as}
use Rattle.pm_print.proofs.Members.{quoted-plain}
use Rattle.pm_document_text.proofs.put.add_quoted.Goals as goal

pub returns : goal.returns
returns c = adds-as _ _ _ _ _ (quoted-plain c.args.text.now c.requires) c.add_between_quotes.ensures
