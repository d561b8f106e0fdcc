use Rattle.std.proofs.Common.{◌≡◌, None, All}
use Rattle.pm_house_tests.proofs.worker.crews.crew_of.Given as goal

-- nobody has been given a connection
abbrev pub invariant-loop-place : goal.invariant-loop-place
invariant-loop-place g l = All (λ m. m.feed.out ≡ None) l.crew.items
