use Rattle.std.proofs.Common.{map, arith}
use Rattle.std.proofs.lemmas.Grind.{common_steps}
use Rattle.std.specs.List.{zip}
use Rattle.pm_model.specs.Text.{count_told}
use Rattle.pm_model.specs.Words.{key_text}
use Rattle.pm_model.specs.declared.words.Key.TheVariants as key
use Rattle.pm_print.proofs.ItemTexts.{list_member}
use Rattle.pm_print.proofs.listing.put_survey.Goals as goal

pub returns : goal.returns
returns g c =
    let items = map (count_told (g.N.NameOf.name_at c.args.names.now)) (zip c.args.users.now c.args.counts.now) in
    rw (list_member (key_text key.Counts) items) (grind (arith, common_steps))
