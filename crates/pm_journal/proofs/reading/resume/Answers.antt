use Rattle.std.proofs.Common.{◌≡◌, ◌+◌, ◌∙◌, ap, sym, subst, length, take, List, ℕ}
use Rattle.pm_disk.specs.Disks.{Each, Leaves}
use Rattle.pm_journal.specs.Images.{IsFront, Rests, Stands}
use Rattle.pm_journal.specs.Journals.{kept_in}
use Rattle.pm_journal.specs.Reading.{AreRead}
use Rattle.pm_journal.specs.Notes.{Note}
use Rattle.pm_journal.proofs.Moments.{goes_on, weakly}
use Rattle.pm_journal.proofs.Resuming.{rests_here, cut_each, cut_same_front}
use Rattle.pm_journal.proofs.Standing.{rests_stands}
use Rattle.pm_journal.proofs.Unique.{one_at_most}
use Rattle.pm_journal.proofs.Windows.{read_same}
use Rattle.pm_journal.proofs.reading.resume.Goals as goal

pub returns-in_err-cut-clause-any_moment : goal.returns-in_err-cut-clause-any_moment
returns-in_err-cut-clause-any_moment g c tells notes stands =
    let D = g.D.Disk in
    let content = D.content c.args.disk.now in
    let end = c.in_ok-entries.end in
    let k = length c.in_ok-entries.entries in
    let read : List Note = kept_in k (take end content) in
    let front : IsFront end k (take end content) read = (c.in_ok-entries.ensures.read tells).front in
    let shut = c.in_ok-entries.ensures.shut tells in
    let found : Stands read content = rests_stands end k (take end content) read content front (rests_here end content shut) in
    let same : read ≡ notes = one_at_most read notes content found stands in
    let for_rests : (f : List ℕ) → Rests end (take end content) f → Stands notes f = λ f rests.
    subst (λ (ns : List Note). Stands ns f) same (rests_stands end k (take end content) read f front rests) in
    let stays = c.read_entries.ensures.stays tells in
    let only : Each (D.may_leave c.read_entries.new.disk) (λ f. f ≡ content) = λ f left. c.requires.durable tells f (stays.crash f left) in
    let read_through : Leaves D.moment D.left_since c.args.disk.now c.read_entries.new.disk (Stands notes) =
    weakly D.moment D.left_since c.args.disk.now c.read_entries.new.disk (D.may_leave c.args.disk.now) (Stands notes) (λ f left. subst (Stands notes) (sym (c.requires.durable tells f left)) stands) stays.moments in
    let after_cut : Each (D.may_leave c.cut.new.self) (Stands notes) = λ f left.
    for_rests f (cut_each end content (D.may_leave c.read_entries.new.disk) (D.may_leave c.cut.new.self) shut only (c.cut.ensures.crash tells) f left) in
    let cut_through = goes_on D.moment D.left_since c.args.disk.now c.read_entries.new.disk c.cut.new.self (Stands notes) (D.may_leave c.cut.new.self) read_through (c.cut.ensures.time tells) after_cut in
    cut_through

pub returns-in_err-sync-clause-any_moment : goal.returns-in_err-sync-clause-any_moment
returns-in_err-sync-clause-any_moment g c tells notes stands =
    let D = g.D.Disk in
    let content = D.content c.args.disk.now in
    let end = c.in_ok-entries.end in
    let k = length c.in_ok-entries.entries in
    let read : List Note = kept_in k (take end content) in
    let front : IsFront end k (take end content) read = (c.in_ok-entries.ensures.read tells).front in
    let shut = c.in_ok-entries.ensures.shut tells in
    let found : Stands read content = rests_stands end k (take end content) read content front (rests_here end content shut) in
    let same : read ≡ notes = one_at_most read notes content found stands in
    let for_rests : (f : List ℕ) → Rests end (take end content) f → Stands notes f = λ f rests.
    subst (λ (ns : List Note). Stands ns f) same (rests_stands end k (take end content) read f front rests) in
    let stays = c.read_entries.ensures.stays tells in
    let only : Each (D.may_leave c.read_entries.new.disk) (λ f. f ≡ content) = λ f left. c.requires.durable tells f (stays.crash f left) in
    let read_through : Leaves D.moment D.left_since c.args.disk.now c.read_entries.new.disk (Stands notes) =
    weakly D.moment D.left_since c.args.disk.now c.read_entries.new.disk (D.may_leave c.args.disk.now) (Stands notes) (λ f left. subst (Stands notes) (sym (c.requires.durable tells f left)) stands) stays.moments in
    let after_cut : Each (D.may_leave c.cut.new.self) (Stands notes) = λ f left.
    for_rests f (cut_each end content (D.may_leave c.read_entries.new.disk) (D.may_leave c.cut.new.self) shut only (c.cut.ensures.crash tells) f left) in
    let cut_through = goes_on D.moment D.left_since c.args.disk.now c.read_entries.new.disk c.cut.new.self (Stands notes) (D.may_leave c.cut.new.self) read_through (c.cut.ensures.time tells) after_cut in
    goes_on D.moment D.left_since c.args.disk.now c.cut.new.self c.sync.new.self (Stands notes) (D.may_leave c.sync.new.self) cut_through (c.sync.ensures.time tells) (λ f left. after_cut f (c.sync.ensures.crash tells f left))

pub returns-clause-any_moment : goal.returns-clause-any_moment
returns-clause-any_moment g c tells notes stands =
    let D = g.D.Disk in
    let content = D.content c.args.disk.now in
    let end = c.in_ok-entries.end in
    let k = length c.in_ok-entries.entries in
    let read : List Note = kept_in k (take end content) in
    let front : IsFront end k (take end content) read = (c.in_ok-entries.ensures.read tells).front in
    let shut = c.in_ok-entries.ensures.shut tells in
    let found : Stands read content = rests_stands end k (take end content) read content front (rests_here end content shut) in
    let same : read ≡ notes = one_at_most read notes content found stands in
    let for_rests : (f : List ℕ) → Rests end (take end content) f → Stands notes f = λ f rests.
    subst (λ (ns : List Note). Stands ns f) same (rests_stands end k (take end content) read f front rests) in
    let stays = c.read_entries.ensures.stays tells in
    let only : Each (D.may_leave c.read_entries.new.disk) (λ f. f ≡ content) = λ f left. c.requires.durable tells f (stays.crash f left) in
    let read_through : Leaves D.moment D.left_since c.args.disk.now c.read_entries.new.disk (Stands notes) =
    weakly D.moment D.left_since c.args.disk.now c.read_entries.new.disk (D.may_leave c.args.disk.now) (Stands notes) (λ f left. subst (Stands notes) (sym (c.requires.durable tells f left)) stands) stays.moments in
    let after_cut : Each (D.may_leave c.cut.new.self) (Stands notes) = λ f left.
    for_rests f (cut_each end content (D.may_leave c.read_entries.new.disk) (D.may_leave c.cut.new.self) shut only (c.cut.ensures.crash tells) f left) in
    let cut_through = goes_on D.moment D.left_since c.args.disk.now c.read_entries.new.disk c.cut.new.self (Stands notes) (D.may_leave c.cut.new.self) read_through (c.cut.ensures.time tells) after_cut in
    goes_on D.moment D.left_since c.args.disk.now c.cut.new.self c.sync.new.self (Stands notes) (D.may_leave c.sync.new.self) cut_through (c.sync.ensures.time tells) (λ f left. after_cut f (c.sync.ensures.crash tells f left))

pub returns-clause-notes : goal.returns-clause-notes
returns-clause-notes g c tells =
    let content = g.D.Disk.content c.args.disk.now in
    let end = c.in_ok-entries.end in
    let k = length c.in_ok-entries.entries in
    let front : IsFront end k (take end content) (kept_in k (take end content)) = (c.in_ok-entries.ensures.read tells).front in
    let found : Stands (kept_in k (take end content)) content =
    rests_stands end k (take end content) (kept_in k (take end content)) content front (rests_here end content (c.in_ok-entries.ensures.shut tells)) in
    let same : take end (g.D.Disk.content c.sync.new.self) ≡ take end content =
    cut_same_front end content (g.D.Disk.content c.read_entries.new.disk) (g.D.Disk.content c.cut.new.self) (g.D.Disk.content c.sync.new.self)
    ((c.read_entries.ensures.stays tells).content) (c.in_ok-cut.ensures.cut tells) (c.sync.ensures.content tells) in
    subst (λ (l : List ℕ). Stands (kept_in k l) content) (sym same) found

pub returns-clause-read : goal.returns-clause-read
returns-clause-read g c tells =
    let content = g.D.Disk.content c.args.disk.now in
    let end = c.in_ok-entries.end in
    let same : take end (g.D.Disk.content c.sync.new.self) ≡ take end content =
    cut_same_front end content (g.D.Disk.content c.read_entries.new.disk) (g.D.Disk.content c.cut.new.self) (g.D.Disk.content c.sync.new.self)
    ((c.read_entries.ensures.stays tells).content) (c.in_ok-cut.ensures.cut tells) (c.sync.ensures.content tells) in
    read_same end (length c.in_ok-entries.entries) content (g.D.Disk.content c.sync.new.self) c.in_ok-entries.entries same (c.in_ok-entries.ensures.read tells)
