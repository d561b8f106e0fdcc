use Rattle.std.proofs.Common.{map, arith}
use Rattle.std.proofs.lemmas.Grind.{common_steps}
use Rattle.pm_model.specs.Text.{change_told}
use Rattle.pm_model.specs.Words.{key_text}
use Rattle.pm_model.specs.declared.words.Key.TheVariants as key
use Rattle.pm_print.proofs.ItemTexts.{list_member}
use Rattle.pm_print.proofs.listing.put_changed.Goals as goal

pub returns : goal.returns
returns c =
    let items = map change_told c.args.changes.now in
    rw (list_member (key_text key.List) items) (grind (arith, common_steps))
