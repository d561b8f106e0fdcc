use Rattle.std.proofs.Common.{ap}
use Rattle.pm_disk.specs.Steps.{Moment}
use Rattle.pm_disk.proofs.Stepping.{moves_elapses, settled_each}
use Rattle.pm_disk.proofs.mem_disk.MemDiskDisk.sync.Goals as goal

pub returns-in-Ok-clause-crash : goal.returns-in-Ok-clause-crash
returns-in-Ok-clause-crash c told =
    let is = c.in-Ok.ensures in
    settled_each c.in-Ok.next c.args.self.now.held c.go_to.new.self.held c.args.self.now.past.items c.go_to.new.self.past.items
    (ap (λ (m : Moment). m.content) is) (ap (λ (m : Moment). m.synced) is) (ap (λ (m : Moment). m.steps) is) c.go_to.ensures.moment

pub returns-in-Ok-clause-time : goal.returns-in-Ok-clause-time
returns-in-Ok-clause-time c told =
    moves_elapses c.in-Ok.next c.args.self.now.held c.go_to.new.self.held c.args.self.now.past.items c.go_to.new.self.past.items c.go_to.ensures.moment
