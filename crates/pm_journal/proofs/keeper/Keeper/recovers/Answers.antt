use Rattle.pm_journal.proofs.Keeping.{recovers}
use Rattle.pm_journal.proofs.keeper.Keeper.recovers.Goals as goal

pub returns : goal.returns
returns g c tells =
    recovers g.D.Disk.tells c.args.self.now.journal.kept c.args.self.now.journal.lost (g.D.Disk.may_leave c.args.self.now.journal.disk) tells (c.stands.ensures.images tells)
