-- The policy of a graph as one value: each list in the one order in which a document has it. The project's own.
use Rattle.pm_model.specs.State.{Graph}
use Rattle.pm_policy.specs.Order.{leads_before, sorted, stands_before}
use Rattle.pm_policy.specs.PolicyOf.{policy_assignments, policy_associations, policy_elements, policy_prohibitions, policy_rights}
use Rattle.pm_policy.specs.Requests.{joins_before}
use Rattle.pm_policy.specs.declared.policy.Policy.{Policy}

-- rights by bit, elements by name, assignments by first then second name, associations by ua then at, and prohibitions in
-- order of creation
abbrev pub policy_in_order : Graph → Policy
policy_in_order G =
    record {
      rights = policy_rights G;
      elements = sorted stands_before (policy_elements G);
      assignments = sorted leads_before (policy_assignments G);
      associations = sorted joins_before (policy_associations G);
      prohibitions = policy_prohibitions G;
    }
