-- The members up to the place stand.
use Rattle.std.proofs.Common.{Ok, map, take}
use Rattle.pm_model.specs.declared.memory.Memory.{Memory}
use Rattle.pm_print.specs.Behind.{member_told}
use Rattle.pm_print.specs.Growth.{Adds}
use Rattle.pm_print.specs.Members.{leading_all}
use Rattle.pm_print.proofs.behind.add_members.Given as goal

abbrev pub invariant-loop-member : goal.invariant-loop-member
invariant-loop-member l = Adds {E = Memory} l.fn.out l.out (leading_all (map member_told (take l.member-index l.members))) (Ok tt)
