use Rattle.std.proofs.Common.{[], map}
use Rattle.pm_document_text.specs.Text.{prohibition_back}
use Rattle.pm_model.specs.Object.{listed}
use Rattle.pm_model.specs.Words.{key_text}
use Rattle.pm_model.specs.declared.words.Key.TheVariants.{Exc}
use Rattle.pm_print.specs.Actions.{name_told}
use Rattle.pm_print.proofs.Appending.{adds-as}
use Rattle.pm_print.proofs.Members.{object_by}
use Rattle.pm_document_text.proofs.items.add_prohibition.Goals as goal

pub returns : goal.returns
returns c =
    let p = c.args.prohibition.now in
    adds-as _ _ _ _ _ (object_by (key_text Exc) (listed (map name_told p.exc)) (prohibition_back p) []) c.add_prohibition_parts.ensures
