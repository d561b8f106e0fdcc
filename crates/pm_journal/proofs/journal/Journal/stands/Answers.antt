use Rattle.std.proofs.Common.{◌≡◌, ◌∙◌, ap, length, subst, List, ℕ}
use Rattle.pm_disk.specs.Disks.{Each, Leaves}
use Rattle.pm_journal.specs.Journals.{Journaled, StandsFor}
use Rattle.pm_journal.proofs.Moments.{started}
use Rattle.pm_journal.proofs.Sound.{sound_stands, sound_count}
use Rattle.pm_journal.proofs.journal.Journal.stands.Goals as goal

pub returns-clause-images : goal.returns-clause-images
returns-clause-images g c tells =
    let j = c.self.inside in
    let content = g.D.Disk.content j.disk in
    rw (← c.self.view_is) (sound_stands j.end j.count j.doubt content (g.D.Disk.may_leave j.disk) (c.self.invariant.1 tells))

pub returns-clause-still : goal.returns-clause-still
returns-clause-still g c tells =
    let j = c.self.inside in
    let D = g.D.Disk in
    let stands : Each (D.may_leave j.disk) (StandsFor c.args.self.now.kept c.args.self.now.lost) =
    rw (← c.self.view_is) (sound_stands j.end j.count j.doubt (D.content j.disk) (D.may_leave j.disk) (c.self.invariant.1 tells)) in
    let disk_is : j.disk ≡ c.args.self.now.disk = ap (λ v. v.disk) c.self.view_is in
    subst (λ d. Leaves D.moment D.left_since d d (StandsFor c.args.self.now.kept c.args.self.now.lost)) disk_is
    (started D.moment D.left_since j.disk (StandsFor c.args.self.now.kept c.args.self.now.lost) (λ f left. stands f (g.met.D.Disk.only_now j.disk f tells left)))

pub returns-clause-count : goal.returns-clause-count
returns-clause-count g c tells =
    let j = c.self.inside in
    let content = g.D.Disk.content j.disk in
    rw (← c.self.view_is) (sound_count j.end j.count j.doubt content (g.D.Disk.may_leave j.disk) (c.self.invariant.1 tells))
