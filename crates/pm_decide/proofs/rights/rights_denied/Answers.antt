-- The rights that the run denies come to the others.
use Rattle.std.proofs.Common.{ℕ, Bool, None, length, drop, ◌+◌, arith, ◌∙◌}
use Rattle.std.proofs.lemmas.List.Folds.{list_any-append}
use Rattle.std.specs.List.{list_any}
use Rattle.pm_model.specs.declared.prohibitions.Prohibition.{Prohibition}
use Rattle.pm_model.specs.Decision.{forbids}
use Rattle.pm_decide.proofs.RightSets.{joining-more}
use Rattle.pm_decide.proofs.Runs.{run-within, or-run}
use Rattle.pm_decide.proofs.rights.rights_denied.Goals as goal

pub loop-start-preserved : goal.loop-start-preserved
loop-start-preserved g c =
    let all = g.B.Bars.prohibitions c.args.bars.now in
    let test : ℕ → Prohibition → Bool = λ r. forbids (g.R.Reach.relation c.args.reach.now).below c.args.user None r c.args.element in
    let run = c.prohibitions_from-run.result.now in
    let lent = c.prohibitions_from-run.ensures.items in
    let i = c.loop-start.start in
    record {
      within = run-within all run i lent (omega arith);
      same = c.rights_denied_by-more.ensures.same ∙ c.loop-start.invariant.same;
      joining = rw c.union-rights.ensures (joining-more c.loop-start.rights c.rights_denied_by-more.result
          (λ r. list_any (test r) run) (λ r. list_any (test r) (drop (i + length run) all)) (λ r. list_any (test r) (drop i all)) (λ r. list_any (test r) all)
          c.loop-start.invariant.joining (rw c.loop-start.invariant.same at c.rights_denied_by-more.ensures.answer)
          (λ r. or-run all run i lent (list_any (test r)) (list_any-append (test r))));
    }
