-- The row has no more than before, and all that rows have is within the words.
use Rattle.std.proofs.Common.{sym, ◌∙◌}
use Rattle.pm_reach.proofs.changes.remake.Goals as goal

pub fill-requires-clause-wide : goal.fill-requires-clause-wide
fill-requires-clause-wide g c q h = c.requires.within c.args.z q (c.requires.less q h)

pub overwrite-requires-clause-less : goal.overwrite-requires-clause-less
overwrite-requires-clause-less g c q h = c.requires.less q (sym (c.fill.ensures.row q) ∙ h)

pub returns-clause-row : goal.returns-clause-row
returns-clause-row g c q = c.overwrite.ensures.row q ∙ c.fill.ensures.row q
