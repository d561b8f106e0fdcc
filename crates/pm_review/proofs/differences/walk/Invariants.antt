-- The changes so far are those of the numbers below the ones that are left.
use Rattle.std.proofs.Common.{◌≡◌, ◌+◌, length}
use Rattle.pm_review.specs.Rising.{AllAlike, AllNamed}
use Rattle.pm_review.specs.declared.differences.Names.TheVariants.{Stay}
use Rattle.pm_review.proofs.Walking.{Walked}
use Rattle.pm_review.proofs.differences.walk.Given as goal

abbrev pub invariant-loop-id : goal.invariant-loop-id
invariant-loop-id g l = record {
  walked : Walked (g.B.NameOf.name_at l.before) (g.A.NameOf.name_at l.after) l.old l.new l.list l.old_rest l.new_rest;
  old_named : AllNamed (g.B.NameOf.named l.before) l.old_rest;
  new_named : AllNamed (g.A.NameOf.named l.after) l.new_rest;
  names : l.names ≡ Stay → AllAlike (g.B.NameOf.name_at l.before) (g.A.NameOf.name_at l.after) l.old_rest;
}

abbrev pub decreases-loop-id : goal.decreases-loop-id
decreases-loop-id g l = length l.old_rest + length l.new_rest
