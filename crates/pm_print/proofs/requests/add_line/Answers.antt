use Rattle.serde_json.specs.Data.{string}
use Rattle.pm_model.specs.Words.{key_text, word_text}
use Rattle.pm_model.specs.declared.words.Key.TheVariants.{Cmd}
use Rattle.pm_print.specs.Requested.{body_back, body_front, body_word}
use Rattle.pm_print.proofs.Appending.{adds-as}
use Rattle.pm_print.proofs.Members.{line_by}
use Rattle.pm_print.proofs.requests.add_line.Goals as goal

pub returns : goal.returns
returns c =
    let r = c.args.request.now in
    adds-as _ _ _ _ _ (line_by (key_text Cmd) (string (word_text (body_word r.body))) (body_back c.args.id r.body) (body_front r.after r.body)) c.add_parts.ensures
