use Rattle.std.proofs.Common.{[]}
use Rattle.serde_json.specs.Data.{string}
use Rattle.pm_model.specs.Words.{key_text}
use Rattle.pm_model.specs.declared.words.Key.TheVariants.{On}
use Rattle.pm_print.specs.Actions.{when_back}
use Rattle.pm_print.proofs.Appending.{adds-as}
use Rattle.pm_print.proofs.Members.{object_by}
use Rattle.pm_print.proofs.actions.add_when_value.Goals as goal

pub returns : goal.returns
returns c =
    let w = c.args.when.now in
    adds-as _ _ _ _ _ (object_by (key_text On) (string w.on) (when_back w) []) c.add_when_parts.ensures
