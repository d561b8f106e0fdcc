use Rattle.std.proofs.Common.{ap, subst, sym, take, List, ℕ}
use Rattle.pm_disk.specs.Disks.{Cut}
use Rattle.pm_disk.specs.Steps.{Moment}
use Rattle.pm_disk.specs.declared.held.Step.TheVariants as step
use Rattle.pm_disk.proofs.Stepping.{failed_follows, moves_elapses, moves_follows, cut_of_take}
use Rattle.pm_disk.proofs.mem_disk.MemDiskDisk.cut.Goals as goal

pub returns-then-fails-clause-crash : goal.returns-then-fails-clause-crash
returns-then-fails-clause-crash c told =
    failed_follows (step.Cut c.args.len) c.args.self.now.held c.fail.new.self.held c.args.self.now.past.items c.fail.new.self.past.items c.fail.ensures.moment

pub returns-then-fails-clause-time : goal.returns-then-fails-clause-time
returns-then-fails-clause-time c told =
    moves_elapses _ c.args.self.now.held c.fail.new.self.held c.args.self.now.past.items c.fail.new.self.past.items c.fail.ensures.moment

pub returns-in-Ok-clause-crash : goal.returns-in-Ok-clause-crash
returns-in-Ok-clause-crash c told =
    let is = c.in-Ok.ensures in
    moves_follows (step.Cut c.args.len) c.in-Ok.next c.args.self.now.held c.go_to.new.self.held c.args.self.now.past.items c.go_to.new.self.past.items
    (ap (λ (m : Moment). m.synced) is) (ap (λ (m : Moment). m.steps) is)
    (subst (λ (l : List ℕ). Cut c.args.len c.args.self.now.held.content l) (sym (ap (λ (m : Moment). m.content) is)) (cut_of_take c.args.len c.args.self.now.held.content)) c.go_to.ensures.moment

pub returns-in-Ok-clause-time : goal.returns-in-Ok-clause-time
returns-in-Ok-clause-time c told =
    moves_elapses c.in-Ok.next c.args.self.now.held c.go_to.new.self.held c.args.self.now.past.items c.go_to.new.self.past.items c.go_to.ensures.moment
