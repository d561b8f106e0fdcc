-- The set has the container.
use Rattle.pm_reach.proofs.Spanning.{holds_given}
use Rattle.pm_reach.proofs.ready.ready_make.Goals as goal

pub returns-clause-held : goal.returns-clause-held
returns-clause-held c = holds_given c.args.containers.now c.put_given.new.self c.args.x c.args.into c.in_ok-put_given.ensures.ok
