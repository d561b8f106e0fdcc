-- Which of the rules one call tells together. The project's own.
use Rattle.std.specs.Prelude.{◌≡◌, ◌≤◌, ◌<◌, ◌+◌, ◌++◌, ℕ, false, List, length, bytes_eq}
use Rattle.std.specs.List.{list_any}
use Rattle.pm_model.specs.Effect.{max_elements, max_assignments, max_associations}
use Rattle.pm_model.specs.Formed.{Each, NameOnce}
use Rattle.pm_model.specs.Prohibitions.{max_prohibitions}
use Rattle.pm_model.specs.RightSet.{command_words, max_rights, opening_rights}
use Rattle.pm_policy.specs.Sound.{AreOnce, FitAssigned, HasContainer, IsAcyclic, IsAssociation, IsProhibition, has_ends}
use Rattle.pm_policy.specs.declared.policy.DocAssignment.{DocAssignment}
use Rattle.pm_policy.specs.declared.policy.DocElement.{DocElement}
use Rattle.pm_policy.specs.declared.policy.DocProhibition.{DocProhibition}
use Rattle.pm_policy.specs.declared.policy.Policy.{Policy}

-- all counts but that of the rights
pub record AreFew (D : Policy) : Type 0 where
  pub elements : length D.elements + 3 ≤ max_elements
  pub assignments : length D.assignments + 2 ≤ max_assignments
  pub associations : length D.associations ≤ max_associations
  pub prohibitions : length D.prohibitions ≤ max_prohibitions

-- the rules of all assignments that stand, of all elements that stand, but that none stands twice
pub record AreTied (es : List DocElement) (pairs : List DocAssignment) : Type 0 where
  pub kinds : Each (FitAssigned es) pairs
  pub contained : Each (HasContainer pairs) es
  pub acyclic : IsAcyclic pairs

-- one more right, where these are
pub record IsFree (rights : List (List ℕ)) (name : List ℕ) : Type 0 where
  pub unused : list_any (bytes_eq name) rights ≡ false
  pub no_word : list_any (bytes_eq name) command_words ≡ false
  pub room : length rights < max_rights

-- the defined rights
pub record AreDefined (rights : List (List ℕ)) : Type 0 where
  pub once : NameOnce (opening_rights ++ rights)
  pub no_words : Each (λ name. list_any (bytes_eq name) command_words ≡ false) rights
  pub few : length rights + 17 ≤ max_rights

-- the associations and the prohibitions
pub record AreRuled (D : Policy) : Type 0 where
  pub associated_once : AreOnce has_ends D.associations
  pub associations : Each (IsAssociation D) D.associations
  pub prohibited_once : AreOnce (λ (p q : DocProhibition). bytes_eq p.name q.name) D.prohibitions
  pub prohibitions : Each (IsProhibition D) D.prohibitions
