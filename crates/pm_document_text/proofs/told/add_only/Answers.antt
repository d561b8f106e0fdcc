use Rattle.std.proofs.Common.{[]}
use Rattle.pm_model.specs.Words.{key_text}
use Rattle.pm_print.proofs.Appending.{adds-as}
use Rattle.pm_print.proofs.Members.{object_by}
use Rattle.pm_document_text.proofs.told.add_only.Goals as goal

pub returns : goal.returns
returns g c = adds-as _ _ _ _ _ (object_by (key_text c.args.key) (g.T.Told.told c.args.value.now) [] []) c.add_only_parts.ensures
