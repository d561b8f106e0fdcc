use Rattle.std.proofs.Common.{◌≡◌, ◌∙◌, ap, subst, List, ℕ, Option, Vec}
use Rattle.std.specs.Prelude.{IfSome}
use Rattle.std.specs.declared.alloc.Global.{Global}
use Rattle.pm_journal.specs.Journals.{written}
use Rattle.pm_journal.specs.Notes.{Note, entry_of}
use Rattle.pm_journal.proofs.Keeping.{leaves_entry}
use Rattle.pm_journal.proofs.Refusing.{is_none, not_refused}
use Rattle.pm_journal.proofs.keeper.KeeperKeep.keep.Goals as goal

pub returns-clause-any_moment : goal.returns-clause-any_moment
returns-clause-any_moment g c tells =
    let D = g.D.Disk in
    let e = c.args.entry.now in
    let note : Note = written e.seat e.nth c.deref.result.now in
    let there : entry_of (written e.seat e.nth c.in-Some.line.items) ≡ e =
    subst (λ (o : Option (Vec ℕ Global)). IfSome o (λ l. entry_of (written e.seat e.nth l.items) ≡ e)) c.in-Some.is c.in-Ok.ensures.entry in
    let same : entry_of note ≡ e = ap (λ (l : List ℕ). entry_of (written e.seat e.nth l)) c.deref.ensures.value ∙ there in
    leaves_entry D.moment D.left_since c.args.self.now.journal.disk c.append.new.self.disk c.args.self.now.journal.kept c.args.self.now.journal.lost e note same (c.append.ensures.any_moment tells)

pub returns-in_default-line-clause-asked : goal.returns-in_default-line-clause-asked
returns-in_default-line-clause-asked g c line id asks short room =
    let refused = c.in-Ok.ensures.refused (is_none c.in-Ok.line c.in_default-line.not-Some) in
    absurd (not_refused c.asked_is_askable.ensures c.printed_is_no_longer.ensures line id c.args.entry.now.request asks short refused)
