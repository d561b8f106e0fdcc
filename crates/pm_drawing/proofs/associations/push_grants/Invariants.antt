use Rattle.std.proofs.Common.{◌≡◌, ◌++◌, map, take}
use Rattle.pm_drawing.proofs.Gathering.{granted}
use Rattle.pm_drawing.proofs.associations.push_grants.Given as goal

abbrev pub invariant-loop-grant : goal.invariant-loop-grant
invariant-loop-grant l = l.list.items ≡ l.fn.list.items ++ map (granted l.grantee.ua) (take l.grant-index l.grant-items)
