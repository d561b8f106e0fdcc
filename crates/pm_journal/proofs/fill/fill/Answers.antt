use Rattle.std.proofs.Common.{rules, ◌≡◌, ◌≤◌, true, length, take, drop, min, ℕ, ◌+◌, ◌-◌, ◌<◌, List, [], refl, sym, ◌∙◌, ap, subst, arith, length-take, length-drop}
use borrow.Rule.Slice.PartMut.{put_mid}
use Rattle.pm_model.specs.Causes.{HasCause}
use Rattle.pm_disk.specs.Disks.{Stays, Fills}
use Rattle.pm_journal.proofs.Filling.{read_more, sized, stays_at_first, stays_on}
use Rattle.pm_journal.proofs.fill.fill.Goals as goal

pub loop-got-init : goal.loop-got-init
loop-got-init g c =
    let D = g.D.Disk in
    record {
      within = omega arith;
      size = refl;
      at_same = refl;
      bytes = λ tells. refl;
      most = λ tells. omega arith;
      stays = λ tells. stays_at_first D.content D.may_leave D.moment D.left_since c.args.disk.now (λ f left. g.met.D.Disk.only_now c.args.disk.now f tells left);
      faults = refl;
    }

pub returns-in_err-n-clause-stays : goal.returns-in_err-n-clause-stays
returns-in_err-n-clause-stays g c tells =
    let D = g.D.Disk in
    stays_on D.content D.may_leave D.moment D.left_since c.args.disk.now c.loop-got.disk c.read.new.self (c.loop-got.invariant.stays tells) (c.read.ensures.content tells) (c.read.ensures.crash tells) (c.read.ensures.time tells)

pub returns-then-n-eq0-clause-stays : goal.returns-then-n-eq0-clause-stays
returns-then-n-eq0-clause-stays g c tells =
    let D = g.D.Disk in
    stays_on D.content D.may_leave D.moment D.left_since c.args.disk.now c.loop-got.disk c.read.new.self (c.loop-got.invariant.stays tells) (c.read.ensures.content tells) (c.read.ensures.crash tells) (c.read.ensures.time tells)

pub loop-got-preserved : goal.loop-got-preserved
loop-got-preserved g c =
    let D = g.D.Disk in
    let inv = c.loop-got.invariant in
    let got = c.loop-got.got in
    let piece = c.loop-got.piece in
    let sub = c.read.new.piece in
    let n = c.in_ok-n.n in
    let within : got ≤ length piece = inv.within in
    let room : length (take (length piece - got) (drop got piece)) ≡ length piece - got = omega (arith, length-take (length piece - got) (drop got piece), length-drop got piece) in
    let part : length sub ≡ length piece - got = c.read.ensures.size ∙ room in
    let most : n ≤ length piece - got = omega (arith, c.in_ok-n.ensures.bound, room) in
    let size : length (put_mid got (length piece - got) piece sub) ≡ length piece = sized piece sub got within part in
    record {
      within = omega (arith, size, most, within);
      size = size ∙ inv.size;
      at_same = refl;
      bytes = λ tells.
          let reads = c.in_ok-n.ensures.bytes tells in
          let same = (inv.stays tells).content in
          let more : take n sub ≡ take n (drop (c.args.at + got) (D.content c.args.disk.now)) = reads.same ∙ ap (λ (l : List ℕ). take n (drop (c.args.at + got) l)) same in
          read_more (D.content c.args.disk.now) piece sub c.args.at got (length piece - got) n within (omega (arith, most, part)) (inv.bytes tells) more;
      most = λ tells.
          let reads = c.in_ok-n.ensures.bytes tells in
          omega (arith, reads.within, ap length (inv.stays tells).content, inv.most tells, c.if-n-eq0.false);
      stays = λ tells. stays_on D.content D.may_leave D.moment D.left_since c.args.disk.now c.loop-got.disk c.read.new.self (inv.stays tells) (c.read.ensures.content tells) (c.read.ensures.crash tells) (c.read.ensures.time tells);
      faults = c.in_ok-n.ensures.cause.kept ∙ inv.faults;
    }

pub returns-clause-bytes : goal.returns-clause-bytes
returns-clause-bytes g c tells =
    let inv = c.loop-got.invariant in
    record { same = inv.bytes tells; count = omega (arith, inv.within, inv.most tells, c.loop-got-test) }

pub returns-clause-stays : goal.returns-clause-stays
returns-clause-stays g c tells = c.loop-got.invariant.stays tells
