use Rattle.pm_affect.proofs.Untouched.{caps_untouched, entries_untouched}
use Rattle.pm_affect.proofs.laws.untouched_right.Goals as goal

pub returns : goal.returns
returns c = record { caps = caps_untouched; entries = entries_untouched }
