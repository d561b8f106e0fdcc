-- What a member behind another one is told as.
use Rattle.std.specs.Prelude.{ℕ, List, Option}
use Rattle.serde_json.specs.Data.{Data}
use Rattle.pm_model.specs.Object.{texted, whole, whole_if}
use Rattle.pm_model.specs.Text.{said}
use Rattle.pm_model.specs.Words.{key_text}
use Rattle.pm_print.specs.Actions.{names_told}
use Rattle.pm_print.specs.declared.behind.Member.{Member}
use Rattle.pm_print.specs.declared.behind.Member.TheVariants.{Number, NumberIf, Name, Names, Word}

abbrev pub member_told : Member → List ℕ × Option Data
member_told (Number key n) = (key_text key, whole n)
member_told (NumberIf key n) = (key_text key, whole_if n)
member_told (Name key name) = (key_text key, texted name.now)
member_told (Names key names) = (key_text key, names_told names.now)
member_told (Word key word) = (key_text key, said word)
