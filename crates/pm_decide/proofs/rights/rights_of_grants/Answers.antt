-- The rights of the grant at the index come to the others.
use Rattle.std.proofs.Common.{ℕ, Bool, drop, ◌+◌, refl, ◌∙◌}
use Rattle.std.proofs.lemmas.Option.{slice_get_read}
use Rattle.std.specs.List.{list_any}
use Rattle.pm_model.specs.declared.rights.Grant.{Grant}
use Rattle.pm_decide.specs.Gives.{gives}
use Rattle.pm_decide.proofs.Walks.{any-drop}
use Rattle.pm_decide.proofs.RightSets.{joining-more}
use Rattle.pm_decide.proofs.rights.rights_of_grants.Goals as goal

pub loop-grant-preserved : goal.loop-grant-preserved
loop-grant-preserved g c =
    let all = c.args.grantee.now.grants in
    let test : ℕ → Grant → Bool = λ r. gives (g.R.Reach.relation c.args.reach.now).below r c.args.element c.args.class in
    let i = c.loop-grant.grant-index in
    record {
      same = c.rights_of_grant-more.ensures.same ∙ c.loop-grant.invariant.same;
      joining = rw c.union-rights.ensures (joining-more c.loop-grant.rights c.rights_of_grant-more.result
          (λ r. test r c.grant-item.result) (λ r. list_any (test r) (drop (i + 1) all)) (λ r. list_any (test r) (drop i all)) (λ r. list_any (test r) all)
          c.loop-grant.invariant.joining (rw c.loop-grant.invariant.same at c.rights_of_grant-more.ensures.answer)
          (λ r. any-drop (test r) all i c.grant-item.result (rw c.as_slice-grant-items.ensures at (slice_get_read _ _ _ _ refl c.loop-grant-test.true c.grant-item.is))));
    }
