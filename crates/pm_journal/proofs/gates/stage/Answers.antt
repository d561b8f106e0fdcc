use Rattle.std.proofs.Common.{◌+◌, length, ℕ, List}
use Rattle.pm_disk.specs.Disks.{Each, Torn}
use Rattle.pm_journal.specs.Images.{Rests}
use Rattle.pm_journal.proofs.Moments.{once, twice}
use Rattle.pm_journal.proofs.Shapes.{rests_on, follows}
use Rattle.pm_journal.proofs.gates.stage.Goals as goal

pub returns-in_err-write_at-clause-shut : goal.returns-in_err-write_at-clause-shut
returns-in_err-write_at-clause-shut g c tells begin here =
    let P : List ℕ → Type 0 = Rests c.args.gate begin in
    let may = g.D.Disk.may_leave in
    let after : Each (may c.write_at.new.self) P = follows (Torn (c.args.gate + 1) (length c.args.piece.now)) _ _ P (rests_on c.args.gate (length c.args.piece.now) begin) (c.write_at.ensures.crash tells) here in
    once g.D.Disk.moment g.D.Disk.left_since may c.args.disk.now c.write_at.new.self P (λ f left. g.met.D.Disk.only_now c.args.disk.now f tells left) (c.write_at.ensures.time tells) after here

pub returns-clause-shut : goal.returns-clause-shut
returns-clause-shut g c tells begin here =
    let P : List ℕ → Type 0 = Rests c.args.gate begin in
    let may = g.D.Disk.may_leave in
    let after : Each (may c.write_at.new.self) P = follows (Torn (c.args.gate + 1) (length c.args.piece.now)) _ _ P (rests_on c.args.gate (length c.args.piece.now) begin) (c.write_at.ensures.crash tells) here in
    let first = once g.D.Disk.moment g.D.Disk.left_since may c.args.disk.now c.write_at.new.self P (λ f left. g.met.D.Disk.only_now c.args.disk.now f tells left) (c.write_at.ensures.time tells) after here in
    twice g.D.Disk.moment g.D.Disk.left_since may c.args.disk.now c.write_at.new.self c.sync.new.self P first (c.sync.ensures.time tells) (c.sync.ensures.crash tells)
