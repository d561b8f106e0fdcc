use Rattle.std.proofs.Common.{◌≡◌, ◌++◌, map, take}
use Rattle.pm_by_name.specs.Keyed.{association_in}
use Rattle.pm_policy.specs.Requests.{associate}
use Rattle.pm_making.specs.Lines.{lines_of}
use Rattle.pm_making.proofs.writing.write_associations.Given as goal

abbrev pub invariant-loop-place : goal.invariant-loop-place
invariant-loop-place l = l.out.items ≡ l.fn.out.items ++ lines_of (map (λ k. associate (association_in l.associations k)) (take l.place-index l.places))
