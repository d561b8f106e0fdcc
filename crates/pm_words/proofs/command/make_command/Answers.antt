use Rattle.pm_words.specs.Told.{app}
use Rattle.pm_words.proofs.command.make_command.Goals as goal

pub returns : goal.returns
unfolding app
returns c = c.with_words.ensures
