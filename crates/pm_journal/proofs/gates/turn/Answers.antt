use Rattle.std.proofs.Common.{ℕ, List}
use Rattle.pm_disk.specs.Disks.{Each, Torn}
use Rattle.pm_journal.specs.Images.{Doubts}
use Rattle.pm_journal.proofs.Moments.{once, twice}
use Rattle.pm_journal.proofs.Shapes.{doubts_on, follows}
use Rattle.pm_journal.proofs.gates.turn.Goals as goal

pub returns-in_err-write_at-clause-doubt : goal.returns-in_err-write_at-clause-doubt
returns-in_err-write_at-clause-doubt g c tells begin behind here =
    let P : List ℕ → Type 0 = Doubts c.args.gate begin behind in
    let may = g.D.Disk.may_leave in
    let after : Each (may c.write_at.new.self) P = follows (Torn c.args.gate 1) _ _ P (doubts_on c.args.gate begin behind) (c.write_at.ensures.crash tells) here in
    once g.D.Disk.moment g.D.Disk.left_since may c.args.disk.now c.write_at.new.self P (λ f left. g.met.D.Disk.only_now c.args.disk.now f tells left) (c.write_at.ensures.time tells) after here

pub returns-clause-doubt : goal.returns-clause-doubt
returns-clause-doubt g c tells begin behind here =
    let P : List ℕ → Type 0 = Doubts c.args.gate begin behind in
    let may = g.D.Disk.may_leave in
    let after : Each (may c.write_at.new.self) P = follows (Torn c.args.gate 1) _ _ P (doubts_on c.args.gate begin behind) (c.write_at.ensures.crash tells) here in
    let first = once g.D.Disk.moment g.D.Disk.left_since may c.args.disk.now c.write_at.new.self P (λ f left. g.met.D.Disk.only_now c.args.disk.now f tells left) (c.write_at.ensures.time tells) after here in
    twice g.D.Disk.moment g.D.Disk.left_since may c.args.disk.now c.write_at.new.self c.sync.new.self P first (c.sync.ensures.time tells) (c.sync.ensures.crash tells)
