use Rattle.serde_json.specs.Data.{number, unsigned}
use Rattle.pm_model.specs.Text.{front, back}
use Rattle.pm_model.specs.Words.{key_text}
use Rattle.pm_model.specs.declared.words.Key.TheVariants.{V}
use Rattle.pm_print.proofs.Members.{line_by}
use Rattle.pm_print.proofs.print.put_line.Goals as goal

pub returns : goal.returns
returns g c = rw (line_by (key_text V) (number (unsigned c.args.version)) (back c.args.reply.now) (front (record { id = c.args.id }) (g.N.NameOf.name_at c.args.names.now) c.args.reply.now)) c.put_line_parts.ensures
