use Rattle.pm_recovery.proofs.Leaving.{are_told, way_recovers}
use Rattle.pm_recovery.proofs.law.a_crash_leaves_the_history.Goals as goal

pub returns-clause-under_way : goal.returns-clause-under_way
returns-clause-under_way g c tells later entry run =
    let D = g.D.Disk in
    let M = c.args.desk.now.0 in
    let journal = c.args.desk.now.1.journal in
    way_recovers D.moment D.left_since journal.disk later journal.kept journal.lost entry M.history (are_told D.tells journal.kept M.history tells c.kept.ensures) run
