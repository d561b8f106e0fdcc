use Rattle.pm_affect.proofs.Were.{copied-kept}
use Rattle.pm_affect.proofs.lists.KeptLists.copy.Goals as goal

pub invariant_of-result : goal.invariant_of-result
invariant_of-result c = rw (c.in_ok-caps.ensures, c.in_ok-entries.ensures) (copied-kept _ c.self.invariant)
