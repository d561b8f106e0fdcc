-- The lists were those of the graph before the change.
use Rattle.std.proofs.Common.{◌≡◌, ◌+◌, true, false, OnOk, sym, ◌∙◌, subst}
use Rattle.pm_model.specs.Formed.{IsNamed}
use Rattle.pm_affect.specs.Counting.{Judged, Written, capped, judged_for, rows_for}
use Rattle.pm_state.specs.Drafted.{Drafted, asked_of}
use Rattle.pm_state.specs.Leaving.{AreNamesKept}
use Rattle.pm_affect.proofs.Counting.{rows-made}
use Rattle.pm_state.proofs.Charged.{if-charged, rows-added}
use Rattle.pm_model.specs.History.{replay}
use Rattle.pm_state.proofs.Listed.{if-due, if-were}
use Rattle.pm_state.proofs.NamesKept.{names-more}
use Rattle.pm_state.proofs.draft.Draft.change.Goals.{then-self, else-self, in-Some, in-None}
use Rattle.pm_state.proofs.draft.Draft.change.Goals as goal

pub repaired-requires : goal.repaired-requires
repaired-requires c =
    let d = c.self.inside in
    let named : IsNamed d.graph c.args.change.now = subst (λ (D : Drafted). IsNamed D.graph c.args.change.now) (sym c.self.view_is) c.requires in
    if-due d.lists c.take.result d.graph c.change.new.self c.args.change.now c.in-Ok.asked c.formed.ensures named c.in-Ok-change.ensures.ok c.in-Ok.ensures.asked
    c.take.ensures.value c.self.invariant.listed

pub returns-clause-done : goal.returns-clause-done
returns-clause-done c Judged =
    let d = c.self.inside in
    let named : IsNamed d.graph c.args.change.now = subst (λ (D : Drafted). IsNamed D.graph c.args.change.now) (sym c.self.view_is) c.requires in
    let charged = if-charged d.lists c.take.result c.repaired.result d.graph c.change.new.self c.args.change.now c.in-Ok.asked c.formed.ensures named
    c.in-Ok-change.ensures.ok c.in-Ok.ensures.asked c.take.ensures.value c.self.invariant.listed c.repaired.ensures.charged in
    elim c.match-self.branch as (λ w. OnOk c.match-self.result (asked_of c.repaired.result ≡ capped (c.args.self.now.asked + judged_for c.args.self.now.graph c.args.change.now))) [
      | in-Some w ↦ rw (w.result-is, ← c.self.view_is) (charged _ w.in-Some.is)
      | in-None w ↦ rw (w.result-is) tt
    ]
returns-clause-done c Written =
    let d = c.self.inside in
    let change = c.args.change.now in
    let more = c.in-Ok-change.ensures.rows ∙ sym (rows-made d.graph c.change.new.self change c.in-Ok-change.ensures.ok) in
    let added = rows-added d.rows c.in-Ok-change.done.rows c.saturating_add-self-inside.result (rows_for d.graph change) more c.saturating_add-self-inside.ensures in
    elim c.match-self.branch as (λ w. OnOk c.match-self.result (c.saturating_add-self-inside.result ≡ capped (c.args.self.now.written + rows_for c.args.self.now.graph change))) [
      | in-Some w ↦ rw (w.result-is, ← c.self.view_is) added
      | in-None w ↦ rw (w.result-is) tt
    ]

pub invariant_of-self-2 : goal.invariant_of-self-2
invariant_of-self-2 c =
    let d = c.self.inside in
    let kept = c.self.invariant in
    let named : IsNamed d.graph c.args.change.now = subst (λ (D : Drafted). IsNamed D.graph c.args.change.now) (sym c.self.view_is) c.requires in
    record {
      legal = kept.legal;
      limit = kept.limit;
      listed = c.repaired.ensures.listed;
      were = if-were d.lists c.take.result c.repaired.result (replay d.history.entries).graph c.take.ensures.value kept.were c.repaired.ensures.were;
      few = search;
      names = elim c.if-self.branch as (λ w. c.if-self.self ≡ false → AreNamesKept (replay d.history.entries).graph c.change.new.self) [
        | then-self w ↦ λ no. absurd (let yes : true ≡ false = sym w.if-self.true ∙ sym w.self-is ∙ no in cc)
        | else-self w ↦ λ no.
            names-more (replay d.history.entries).graph d.graph c.change.new.self c.args.change.now c.formed.ensures named c.in-Ok-change.ensures.ok
            (sym c.deletes-more.ensures ∙ sym w.self-is ∙ no) (kept.names w.if-self.false)
      ];
    }
