-- One container more, and at the end all of them.
use Rattle.std.proofs.Common.{◌∙◌, sym, arith}
use Rattle.std.proofs.lemmas.Option.{get_or_from_slice_get, slice_get_within}
use Rattle.pm_model.specs.Containment.{containers}
use Rattle.pm_reach.proofs.Gathering.{gathered-more, gathered-same, gathered-all, final-tells, last_final, at_place}
use Rattle.pm_reach.proofs.changes.gather.Goals as goal

pub loop-i-preserved-then-w-z : goal.loop-i-preserved-then-w-z
loop-i-preserved-then-w-z g c =
    let assigned = g.P.Parents.assigned c.args.parents.now in
    let all = containers assigned c.args.z in
    record {
      long = c.loop-i.invariant.long;
      held = gathered-same assigned c.args.z c.loop-i.row c.loop-i.i c.parent.result
          (slice_get_within all c.loop-i.i c.parent.result c.parent.ensures.answer)
          (get_or_from_slice_get all c.loop-i.i c.parent.result 0 c.parent.ensures.answer)
          (sym c.number-w.ensures ∙ c.if-w-z.true) c.loop-i.invariant.held;
    }

pub returns-then-not-is_final-clause-last : goal.returns-then-not-is_final-clause-last
returns-then-not-is_final-clause-last g c =
    let assigned = g.P.Parents.assigned c.args.parents.now in
    λ last. sym c.if-not-is_final.true
    ∙ c.is_final.ensures
    ∙ rw c.number-w.ensures (last_final assigned c.args.table.now.rows c.args.x c.args.z c.parent.result last
    (at_place (containers assigned c.args.z) c.loop-i.i c.parent.result c.parent.ensures.answer) (λ e. c.if-w-z.false (c.number-w.ensures ∙ e)))

pub unite_within-requires : goal.unite_within-requires
unite_within-requires g c =
    λ y h. rw c.loop-i.invariant.long (c.requires.within c.number-w.result y (sym (c.words.ensures y) ∙ h))

pub loop-i-preserved : goal.loop-i-preserved
loop-i-preserved g c =
    let assigned = g.P.Parents.assigned c.args.parents.now in
    let all = containers assigned c.args.z in
    record {
      long = c.unite_within.ensures.long ∙ c.loop-i.invariant.long;
      held = gathered-more assigned c.args.z c.loop-i.row c.unite_within.new.into _ c.loop-i.i c.parent.result
          (slice_get_within all c.loop-i.i c.parent.result c.parent.ensures.answer)
          (get_or_from_slice_get all c.loop-i.i c.parent.result 0 c.parent.ensures.answer) (λ e. c.if-w-z.false (c.number-w.ensures ∙ e))
          c.loop-i.invariant.held c.unite_within.ensures.row
          (λ q. c.words.ensures q
          ∙ rw c.number-w.ensures (final-tells assigned c.args.table.now.rows c.args.x c.args.z c.parent.result c.requires.told
          (c.requires.rows c.parent.result c.parent.ensures.live) (rw c.number-w.ensures at c.if-not-is_final.ensures) q));
    }

pub returns-clause-row : goal.returns-clause-row
returns-clause-row g c =
    gathered-all (g.P.Parents.assigned c.args.parents.now) c.args.z c.loop-i.row c.loop-i.i (omega arith) c.loop-i.invariant.held
