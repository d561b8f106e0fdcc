use Rattle.serde_json.specs.Data.{string}
use Rattle.pm_model.specs.Words.{key_text, word_text}
use Rattle.pm_model.specs.declared.words.Key.TheVariants.{Cmd}
use Rattle.pm_print.specs.Actions.{act_back, act_front, act_word, guards_told}
use Rattle.pm_print.proofs.Appending.{adds-as}
use Rattle.pm_print.proofs.Members.{object_by}
use Rattle.pm_print.proofs.actions.add_action.Goals as goal

pub returns : goal.returns
returns c =
    let a = c.args.action.now in
    adds-as _ _ _ _ _ (object_by (key_text Cmd) (string (word_text (act_word a.act))) (act_back (guards_told a.guards) a.act) (act_front a.act)) c.add_action_parts.ensures
