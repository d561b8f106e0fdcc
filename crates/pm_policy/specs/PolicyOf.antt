-- The policy of a graph by names, and that a graph has a document's policy. The project's own.
use Rattle.std.specs.Prelude.{◌≡◌, ◌↔◌, ℕ, Bool, true, false, not, List, [], ◌∷◌, map, filter, drop, Contains, Option, None, Some}
use Rattle.pm_model.specs.State.{Graph, name_numbered}
use Rattle.pm_model.specs.Effect.{is_builtin, is_builtin_element}
use Rattle.pm_model.specs.RightSet.{has_right, bit_named}
use Rattle.pm_model.specs.declared.elements.Element.{Element}
use Rattle.pm_model.specs.declared.rights.Association.{Association}
use Rattle.pm_model.specs.declared.prohibitions.Prohibition.{Prohibition}
use Rattle.pm_model.specs.declared.prohibitions.Mode.{Mode}
use Rattle.pm_model.specs.declared.prohibitions.Subject.{Subject}
use Rattle.pm_model.specs.declared.prohibitions.Subject.TheVariants as subject
use Rattle.pm_policy.specs.Policy.{assignment, doc_element}
use Rattle.pm_policy.specs.declared.policy.Policy.{Policy}
use Rattle.pm_policy.specs.declared.policy.DocElement.{DocElement}
use Rattle.pm_policy.specs.declared.policy.DocAssignment.{DocAssignment}
use Rattle.pm_policy.specs.declared.policy.DocAssociation.{DocAssociation}
use Rattle.pm_policy.specs.declared.policy.DocProhibition.{DocProhibition}

abbrev pub doc_of : Element → DocElement
doc_of e = doc_element e.kind e.name

abbrev pub policy_elements : Graph → List DocElement
policy_elements G = map doc_of (filter (λ (e : Element). not (is_builtin_element e.number)) G.elements)

abbrev pub policy_assignments : Graph → List DocAssignment
policy_assignments G =
    map (λ (p : ℕ × ℕ). assignment (name_numbered G.elements p.0) (name_numbered G.elements p.1))
    (filter (λ (p : ℕ × ℕ). not (is_builtin p.0 p.1)) G.assigned)

abbrev pub policy_rights : Graph → List (List ℕ)
policy_rights G = drop 17 G.rights

-- the same items, in any order
abbrev pub AreSame : {X : Type 0} → List X → List X → Type 0
AreSame xs ys = (x : _) → Contains xs x ↔ Contains ys x

-- the rights of a set, by bit
abbrev pub is_bit_in : ℕ → Option ℕ → Bool
is_bit_in set None = false
is_bit_in set (Some bit) = has_right set bit

abbrev pub rights_named : List (List ℕ) → ℕ → List (List ℕ)
rights_named rights set = filter (λ name. is_bit_in set (bit_named rights name)) rights

abbrev pub association : List ℕ → List (List ℕ) → List ℕ → DocAssociation
association ua rights at = record { ua = ua; rights = rights; at = at }

abbrev pub policy_associations : Graph → List DocAssociation
policy_associations G =
    map (λ (a : Association). association (name_numbered G.elements a.ua) (rights_named G.rights a.rights) (name_numbered G.elements a.at)) G.associations

-- by names; none of a prohibition on a process
abbrev pub subject_named : Graph → Subject ℕ ℕ → Subject (List ℕ) ℕ
subject_named G (subject.User n) = subject.User (name_numbered G.elements n)
subject_named G (subject.Ua n) = subject.Ua (name_numbered G.elements n)
subject_named G (subject.Process n) = subject.Process n

abbrev pub doc_prohibition : List ℕ → Subject (List ℕ) ℕ → List (List ℕ) → List (List ℕ) → List (List ℕ) → Mode → DocProhibition
doc_prohibition name s rights inc exc mode = record { name = name; subject = s; rights = rights; inc = inc; exc = exc; mode = mode }

abbrev pub is_on_process : Subject ℕ ℕ → Bool
is_on_process (subject.Process n) = true
is_on_process _ = false

abbrev pub policy_prohibition : Graph → Prohibition → DocProhibition
policy_prohibition G p =
    doc_prohibition p.name (subject_named G p.subject) (rights_named G.rights p.rights) (map (name_numbered G.elements) p.inc) (map (name_numbered G.elements) p.exc) p.mode

abbrev pub policy_prohibitions : Graph → List DocProhibition
policy_prohibitions G = map (policy_prohibition G) (filter (λ (p : Prohibition). not (is_on_process p.subject)) G.prohibitions)

-- the same but for the order of the rights
abbrev pub IsLikeAssociation : DocAssociation → DocAssociation → Type 0
IsLikeAssociation a b = (a.ua ≡ b.ua) × AreSame a.rights b.rights × (a.at ≡ b.at)

abbrev pub IsLikeProhibition : DocProhibition → DocProhibition → Type 0
IsLikeProhibition p q =
    (p.name ≡ q.name) × (p.subject ≡ q.subject) × AreSame p.rights q.rights × (p.inc ≡ q.inc) × (p.exc ≡ q.exc) × (p.mode ≡ q.mode)

-- each of the one is like some of the other
abbrev pub AreLike : {X : Type 0} → (X → X → Type 0) → List X → List X → Type 0
AreLike {X = X} like xs ys = ((x : X) → Contains xs x → (y : X) × Contains ys y × like x y) × ((y : X) → Contains ys y → (x : X) × Contains xs x × like x y)

-- one by one
abbrev pub AreLikeInOrder : {X : Type 0} → (X → X → Type 0) → List X → List X → Type 0
AreLikeInOrder like [] [] = Unit {0}
AreLikeInOrder like (x ∷ xs) (y ∷ ys) = like x y × AreLikeInOrder like xs ys
AreLikeInOrder like _ _ = ⊥

-- the graph has the document's policy: as sets, the rights and the prohibitions in their order
pub record HasPolicy (D : Policy) (G : Graph) : Type 0 where
  pub rights : policy_rights G ≡ D.rights
  pub elements : AreSame (policy_elements G) D.elements
  pub assignments : AreSame (policy_assignments G) D.assignments
  pub associations : AreLike IsLikeAssociation (policy_associations G) D.associations
  pub prohibitions : AreLikeInOrder IsLikeProhibition (policy_prohibitions G) D.prohibitions
