use Rattle.pm_read.proofs.Taken.{command_word_is_taken}
use Rattle.pm_read.proofs.laws.command_word_is_taken.Goals as goal

pub returns : goal.returns
returns c = command_word_is_taken
