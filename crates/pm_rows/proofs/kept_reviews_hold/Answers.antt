use Rattle.std.proofs.Common.{refl}
use Rattle.std.specs.Str.{is_utf8, chars}
use Rattle.std.specs.Fmt.{digits}
use Rattle.serde_json.proofs.OnLiterals.{serde_json_on_literals}
use Rattle.pm_model.specs.Words.{key_text, word_text}
use Rattle.pm_model.specs.Containment.{contained}
use Rattle.pm_model.specs.LastChanges.{changes_below}
use Rattle.pm_model.specs.RightSet.{opening_rights, commands, from_bits}
use Rattle.pm_rows.proofs.kept_reviews_hold.Goals as goal

pub returns : goal.returns
unfolding serde_json_on_literals key_text word_text contained opening_rights commands from_bits changes_below is_utf8 chars digits
returns c = (refl, (refl, (refl, tt)))
