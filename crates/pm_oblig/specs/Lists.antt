-- Which actions come to a command that holds lists of its own. The project's own.
use Rattle.std.specs.Prelude.{Bool, true, false}
use Rattle.pm_model.specs.declared.actions.Act.{Act}
use Rattle.pm_model.specs.declared.actions.Act.TheVariants.{Associate, Prohibit}

-- a list of the names of rights, or of elements
abbrev pub has_lists : Act → Bool
has_lists (Associate ua rights at) = true
has_lists (Prohibit name subject rights inc exc mode) = true
has_lists _ = false
