use Rattle.pm_model.specs.RightSet.{commands}
use Rattle.pm_rights.proofs.words.is_command_word.Goals as goal

-- the words in the code are the commands
pub returns : goal.returns
unfolding commands
returns c = c.is_any_of.ensures
