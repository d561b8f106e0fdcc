-- What responses and patterns read as, computed.
use Rattle.std.proofs.Common.{refl}
use Rattle.std.specs.Str.{is_utf8, chars}
use Rattle.serde_json.proofs.OnLiterals.{serde_json_on_literals}
use Rattle.pm_model.specs.Words.{key_text, word_text}
use Rattle.pm_model.specs.Formed.{Each}
use Rattle.pm_rows.specs.Responses.{Responds, Awaits, responses, awaited}

pub responses_told : Each Responds responses
unfolding serde_json_on_literals key_text word_text is_utf8 chars
responses_told = (refl, (refl, (refl, (refl, (refl, tt)))))

pub awaited_told : Each Awaits awaited
unfolding serde_json_on_literals key_text word_text is_utf8 chars
awaited_told = (refl, (refl, (refl, (refl, tt))))
