use Rattle.std.proofs.Common.{rules, ◌≡◌, ◌≤◌, ◌+◌, ◌*◌, ◌++◌, ◌∷◌, [], true, length, take, drop, ℕ, ◌-◌, ◌<◌, List, sym, ap, subst, ◌∙◌, arith, length-take, length-append, length-drop}
use Rattle.pm_model.specs.declared.requests.Entry.{Entry}
use Rattle.pm_journal.specs.Founds.{IsFound, IsFoundWhole, IsShort}
use Rattle.pm_journal.specs.Reading.{AreRead}
use Rattle.pm_journal.proofs.Filling.{stays_then, stays_at_first}
use Rattle.pm_journal.proofs.Windows.{reads_entry, read_none}
use Rattle.pm_journal.proofs.reading.read_entries.Goals as goal

pub loop-count-preserved : goal.loop-count-preserved
loop-count-preserved g c =
    let D = g.D.Disk in
    let inv = c.loop-count.invariant in
    let w = c.loop-count.window in
    let at = c.loop-count.at in
    let k = c.loop-count.count in
    let content = D.content c.args.disk.now in
    let entry : Entry = c.in-Whole.entry in
    let len = c.in-Whole.len in
    let short : len ≤ 8192 = subst IsShort c.in-Whole.is c.in_ok-find.ensures.short in
    record {
      window = omega (arith, w.ok.0, inv.window, c.find.ensures.window, length-take w.len (c.find.new.window ++ drop (length c.find.new.window) w.items), length-append c.find.new.window (drop (length c.find.new.window) w.items));
      entries = omega (arith, ap length c.in_ok-push-in-Whole.ensures.ok, length-append c.loop-count.entries (entry ∷ []), inv.entries);
      most = omega (arith, inv.most, c.if-count-eq-MOST.false);
      place = omega (arith, inv.place, short);
      there = λ tells.
          let same : D.content c.loop-count.disk ≡ content = (inv.stays tells).content in
          let found : IsFound (drop at content) c.in_ok-find.field-0 = subst (λ (l : List ℕ). IsFound (drop at l) c.in_ok-find.field-0) same (c.in_ok-find.ensures.found tells) in
          let whole : IsFoundWhole (drop at content) entry len = subst (IsFound (drop at content)) c.in-Whole.is found in
          omega (arith, whole.whole.whole, whole.len_is, length-drop at content);
      read = λ tells.
          let same : D.content c.loop-count.disk ≡ content = (inv.stays tells).content in
          let found : IsFound (drop at content) c.in_ok-find.field-0 = subst (λ (l : List ℕ). IsFound (drop at l) c.in_ok-find.field-0) same (c.in_ok-find.ensures.found tells) in
          let whole : IsFoundWhole (drop at content) entry len = subst (IsFound (drop at content)) c.in-Whole.is found in
          subst (λ (es : List Entry). AreRead (at + (17 + len)) (k + 1) content es) (sym c.in_ok-push-in-Whole.ensures.ok) (reads_entry at k content c.loop-count.entries entry len (inv.read tells) whole (omega (arith, inv.most, c.if-count-eq-MOST.false)));
      stays = λ tells. stays_then D.content D.may_leave D.moment D.left_since c.args.disk.now c.loop-count.disk c.find.new.disk (inv.stays tells) (c.find.ensures.stays tells);
      faults = c.in_ok-find.ensures.cause.kept ∙ inv.faults;
    }

pub unreachable-requires : goal.unreachable-requires
unreachable-requires g c = absurd (omega (arith, c.loop-count-test.false, c.loop-count.invariant.most))
