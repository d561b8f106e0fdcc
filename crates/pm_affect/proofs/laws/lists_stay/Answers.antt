use Rattle.pm_affect.proofs.Given.{lists_inserted, lists_removed}
use Rattle.pm_affect.proofs.laws.lists_stay.Goals as goal

pub returns : goal.returns
returns c = record { inserted = lists_inserted; removed = lists_removed }
