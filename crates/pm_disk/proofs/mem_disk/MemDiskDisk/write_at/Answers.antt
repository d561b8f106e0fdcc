use Rattle.std.proofs.Common.{length}
use Rattle.pm_disk.specs.declared.held.Step.TheVariants as step
use Rattle.pm_disk.proofs.Stepping.{failed_follows, moves_elapses, moves_follows, torn_of_holds}
use Rattle.pm_disk.proofs.mem_disk.MemDiskDisk.write_at.Goals as goal

pub returns-then-fails-clause-crash : goal.returns-then-fails-clause-crash
returns-then-fails-clause-crash c told =
    failed_follows (step.Write c.args.at (length c.args.piece.now)) c.args.self.now.held c.fail.new.self.held c.args.self.now.past.items c.fail.new.self.past.items c.fail.ensures.moment

pub returns-then-fails-clause-time : goal.returns-then-fails-clause-time
returns-then-fails-clause-time c told =
    moves_elapses _ c.args.self.now.held c.fail.new.self.held c.args.self.now.past.items c.fail.new.self.past.items c.fail.ensures.moment

pub returns-in-Ok-clause-crash : goal.returns-in-Ok-clause-crash
returns-in-Ok-clause-crash c told =
    moves_follows (step.Write c.args.at (length c.args.piece.now)) c.in-Ok.next c.args.self.now.held c.go_to.new.self.held c.args.self.now.past.items c.go_to.new.self.past.items
    c.in-Ok.ensures.synced c.in-Ok.ensures.steps (torn_of_holds c.args.at c.args.self.now.held.content c.args.piece.now c.in-Ok.next.content (c.requires told) c.in-Ok.ensures.content) c.go_to.ensures.moment

pub returns-in-Ok-clause-time : goal.returns-in-Ok-clause-time
returns-in-Ok-clause-time c told =
    moves_elapses c.in-Ok.next c.args.self.now.held c.go_to.new.self.held c.args.self.now.past.items c.go_to.new.self.past.items c.go_to.ensures.moment
