-- A graph has its policy: each list of it has the same items.
use Rattle.std.proofs.Common.{Bool, List, [], ◌∷◌, refl}
use Rattle.pm_model.specs.State.{Graph}
use Rattle.pm_policy.specs.Drawn.{policy_in_order}
use Rattle.pm_policy.specs.Order.{leads_before, sorted, stands_before}
use Rattle.pm_policy.specs.PolicyOf.{AreLikeInOrder, AreSame, HasPolicy, IsLikeProhibition, policy_assignments, policy_associations, policy_elements, policy_prohibitions}
use Rattle.pm_policy.specs.Requests.{joins_before}
use Rattle.pm_policy.specs.declared.policy.DocProhibition.{DocProhibition}
use Rattle.pm_policy.proofs.Sorted.{has-sorted, sorted-has}

same-itself : {X : Type 0} (xs : List X) → AreSame xs xs
same-itself xs x = (λ c. c, λ c. c)

same-sorted : {X : Type 0} (before : X → X → Bool) (xs : List X) → AreSame xs (sorted before xs)
same-sorted before xs x = (λ c. sorted-has before xs x c, λ c. has-sorted before xs x c)

like-itself : (ps : List DocProhibition) → AreLikeInOrder IsLikeProhibition ps ps
like-itself [] = tt
like-itself (p ∷ ps) = ((refl, refl, same-itself p.rights, refl, refl, refl), like-itself ps)

pub policy_stands : (G : Graph) → HasPolicy (policy_in_order G) G
policy_stands G = record {
  rights = refl;
  elements = same-sorted stands_before (policy_elements G);
  assignments = same-sorted leads_before (policy_assignments G);
  associations = (
    λ a c. (a, sorted-has joins_before (policy_associations G) a c, (refl, same-itself a.rights, refl)),
    λ a c. (a, has-sorted joins_before (policy_associations G) a c, (refl, same-itself a.rights, refl)),
  );
  prohibitions = like-itself (policy_prohibitions G);
}
