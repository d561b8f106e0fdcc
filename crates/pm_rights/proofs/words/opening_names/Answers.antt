use Rattle.pm_model.specs.RightSet.{opening_rights}
use Rattle.pm_rights.proofs.words.opening_names.Goals as goal

-- the texts in the code are the names
pub returns : goal.returns
unfolding opening_rights
returns c = c.names_of.ensures
