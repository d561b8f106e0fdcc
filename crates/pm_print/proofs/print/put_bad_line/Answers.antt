use Rattle.std.proofs.Common.{[]}
use Rattle.serde_json.specs.Data.{number, unsigned}
use Rattle.pm_model.specs.Text.{bad_front}
use Rattle.pm_model.specs.Words.{key_text}
use Rattle.pm_model.specs.declared.words.Key.TheVariants.{V}
use Rattle.pm_print.proofs.Members.{line_by}
use Rattle.pm_print.proofs.print.put_bad_line.Goals as goal

pub returns : goal.returns
returns c = rw (line_by (key_text V) (number (unsigned c.args.version)) [] (bad_front (record { id = c.args.id }) c.args.bad.now)) c.put_bad_parts.ensures
