use Rattle.std.proofs.Common.{take}
use Rattle.pm_disk.specs.Steps.{Leads}
use Rattle.pm_disk.proofs.torn.after_steps.Given as goal

abbrev pub invariant-loop-i : goal.invariant-loop-i
invariant-loop-i l = Leads (take l.i l.steps) l.synced l.bytes.items
