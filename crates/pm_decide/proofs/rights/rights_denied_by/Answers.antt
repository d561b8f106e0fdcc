-- The rights of the prohibition at the index come to the others.
use Rattle.std.proofs.Common.{ℕ, Bool, None, drop, ◌+◌, refl, ◌∙◌}
use Rattle.std.proofs.lemmas.Option.{slice_get_read}
use Rattle.std.specs.List.{list_any}
use Rattle.pm_model.specs.declared.prohibitions.Prohibition.{Prohibition}
use Rattle.pm_model.specs.Decision.{forbids}
use Rattle.pm_decide.proofs.Walks.{any-drop}
use Rattle.pm_decide.proofs.RightSets.{joining-more}
use Rattle.pm_decide.proofs.rights.rights_denied_by.Goals as goal

pub loop-bar-preserved : goal.loop-bar-preserved
loop-bar-preserved g c =
    let all = c.args.bars.now in
    let test : ℕ → Prohibition → Bool = λ r. forbids (g.R.Reach.relation c.args.reach.now).below c.args.user None r c.args.element in
    let i = c.loop-bar.bar-index in
    record {
      same = c.rights_barred-more.ensures.same ∙ c.loop-bar.invariant.same;
      joining = rw c.union-rights.ensures (joining-more c.loop-bar.rights c.rights_barred-more.result
          (λ r. test r c.bar-item.result) (λ r. list_any (test r) (drop (i + 1) all)) (λ r. list_any (test r) (drop i all)) (λ r. list_any (test r) all)
          c.loop-bar.invariant.joining (rw c.loop-bar.invariant.same at c.rights_barred-more.ensures.answer)
          (λ r. any-drop (test r) all i c.bar-item.result (slice_get_read all _ _ _ refl c.loop-bar-test.true c.bar-item.is)));
    }
