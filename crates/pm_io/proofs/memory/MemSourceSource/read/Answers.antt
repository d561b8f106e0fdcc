use Rattle.std.proofs.Common.{refl}
use Rattle.pm_io.proofs.memory.MemSourceSource.read.Goals as goal

pub returns-then-next_fails-clause-listed : goal.returns-then-next_fails-clause-listed
returns-then-next_fails-clause-listed c = rw (← c.self.view_is) (λ _. c.if-next_fails.ensures.fails.0 refl, λ _. refl)
