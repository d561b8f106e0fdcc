-- Sound: a document that can be made from the opening state on, one fact for each rule. Source: the standard's constraints on
-- assignments (of certain kinds, acyclic, each element leads to a policy class); names and limits are the project's own.
use Rattle.std.specs.Prelude.{codes, ◌≡◌, ◌≤◌, ◌+◌, ℕ, Bool, true, false, ◌&&◌, ◌||◌, ◌==◌, List, [], ◌∷◌, ◌++◌, length, bytes_eq, Contains, Option, None, Some}
use Rattle.std.specs.List.{list_any}
use Rattle.pm_model.specs.State.{is_class_kind}
use Rattle.pm_model.specs.Effect.{may_assign, may_associate, is_user_kind, is_ua_kind, is_place_kind, max_elements, max_assignments, max_associations}
use Rattle.pm_model.specs.Prohibitions.{max_prohibitions}
use Rattle.pm_model.specs.RightSet.{opening_rights, command_words, max_rights}
use Rattle.pm_model.specs.Formed.{Each, NameOnce}
use Rattle.pm_model.specs.declared.elements.Kind.{Kind}
use Rattle.pm_model.specs.declared.prohibitions.Subject.{Subject}
use Rattle.pm_model.specs.declared.prohibitions.Subject.TheVariants as subject
use Rattle.pm_policy.specs.Policy.{assignment, is_assigned, is_called, is_same, standing, called}
use Rattle.pm_policy.specs.declared.policy.Policy.{Policy}
use Rattle.pm_policy.specs.declared.policy.DocElement.{DocElement}
use Rattle.pm_policy.specs.declared.policy.DocAssignment.{DocAssignment}
use Rattle.pm_policy.specs.declared.policy.DocAssociation.{DocAssociation}
use Rattle.pm_policy.specs.declared.policy.DocProhibition.{DocProhibition}

-- ---- elements and assignments

-- no two are alike
abbrev pub AreOnce : {X : Type 0} → (X → X → Bool) → List X → Type 0
AreOnce alike [] = Unit {0}
AreOnce alike (x ∷ xs) = (list_any (alike x) xs ≡ false) × AreOnce alike xs

-- no two have one name
abbrev pub AreOnceCalled : List DocElement → Type 0
AreOnceCalled es = AreOnce (λ (d : DocElement). is_called d.name) es

-- no assignment stands twice
abbrev pub AreOnceAssigned : List DocAssignment → Type 0
AreOnceAssigned ps = AreOnce is_same ps

abbrev pub both : (Kind → Kind → Bool) → Option DocElement → Option DocElement → Bool
both fits (Some a) (Some b) = fits a.kind b.kind
both fits _ _ = false

-- both ends stand, and are of kinds that may be assigned
abbrev pub FitAssigned : List DocElement → DocAssignment → Type 0
FitAssigned es p = both may_assign (called es p.from) (called es p.to) ≡ true

-- from one name the others lead on to the last, each by an assignment
abbrev pub LeadsOn : List DocAssignment → List ℕ → List (List ℕ) → List ℕ → Type 0
LeadsOn pairs x [] y = x ≡ y
LeadsOn pairs x (z ∷ rest) y = Contains pairs (assignment x z) × LeadsOn pairs z rest y

abbrev pub IsAcyclic : List DocAssignment → Type 0
IsAcyclic pairs = (x z : List ℕ) (rest : List (List ℕ)) → LeadsOn pairs x (z ∷ rest) x → ⊥

-- the assignments of the opening, by names
abbrev pub opening_pairs : List DocAssignment
opening_pairs = assignment (codes "pm_admins") (codes "pm")
    ∷ assignment (codes "root") (codes "pm_admins") ∷ []

abbrev pub HasContainer : List DocAssignment → DocElement → Type 0
HasContainer pairs e = (is_class_kind e.kind || list_any (is_assigned e.name) pairs) ≡ true

-- the rules of elements and assignments, which stand beside those of the opening
pub record AreSound (es : List DocElement) (pairs : List DocAssignment) : Type 0 where
  -- no two elements have one name, and none has an opening one's
  pub once : AreOnceCalled (standing es)
  -- no assignment stands twice, and none is one of the opening
  pub assigned_once : AreOnceAssigned (opening_pairs ++ pairs)
  -- both ends of each stand, and are of kinds that may be assigned
  pub kinds : Each (FitAssigned (standing es)) pairs
  -- with those of the opening they have no cycle
  pub acyclic : IsAcyclic (opening_pairs ++ pairs)
  -- each element but a class has a container
  pub contained : Each (HasContainer pairs) es
  -- with those of the opening there are no more than a state may have
  pub few : length es + 3 ≤ max_elements
  pub few_assigned : length pairs + 2 ≤ max_assignments

-- ---- rights, associations and prohibitions

-- each of these is an opening right or a defined one
abbrev pub AreRightsOf : Policy → List (List ℕ) → Type 0
AreRightsOf D names = Each (λ name. list_any (bytes_eq name) (opening_rights ++ D.rights) ≡ true) names

-- both join the same pair
abbrev pub has_ends : DocAssociation → DocAssociation → Bool
has_ends a b = bytes_eq a.ua b.ua && bytes_eq a.at b.at

abbrev pub has_kind : (Kind → Bool) → Option DocElement → Bool
has_kind fits None = false
has_kind fits (Some e) = fits e.kind

-- the element of the name stands, and may be in a set of a prohibition
abbrev pub IsPlace : List DocElement → List ℕ → Type 0
IsPlace es name = has_kind is_place_kind (called es name) ≡ true

-- the subject is a user or a user attribute, and stands
abbrev pub FitsSubject : List DocElement → Subject (List ℕ) ℕ → Type 0
FitsSubject es (subject.User name) = has_kind is_user_kind (called es name) ≡ true
FitsSubject es (subject.Ua name) = has_kind is_ua_kind (called es name) ≡ true
FitsSubject es (subject.Process n) = ⊥

pub record IsAssociation (D : Policy) (a : DocAssociation) : Type 0 where
  pub kinds : both may_associate (called (standing D.elements) a.ua) (called (standing D.elements) a.at) ≡ true
  pub rights : AreRightsOf D a.rights

pub record IsProhibition (D : Policy) (p : DocProhibition) : Type 0 where
  pub subject : FitsSubject (standing D.elements) p.subject
  pub rights : AreRightsOf D p.rights
  pub inc : Each (IsPlace (standing D.elements)) p.inc
  pub exc : Each (IsPlace (standing D.elements)) p.exc
  -- not both sets are empty
  pub ranged : (length p.inc == 0 && length p.exc == 0) ≡ false

-- the rules of a document: its lists have their forms already, and no line that makes it can be too long, since names have
-- at most 64 bytes and lists at most 32 names
pub record IsSound (D : Policy) : Type 0 where
  -- the rules of elements and assignments
  pub elements : AreSound D.elements D.assignments
  -- no defined right stands twice, and none is an opening one
  pub rights_once : NameOnce (opening_rights ++ D.rights)
  -- none is the word of a command
  pub no_words : Each (λ name. list_any (bytes_eq name) command_words ≡ false) D.rights
  -- with the opening ones there are no more than a state may have
  pub few_rights : length D.rights + 17 ≤ max_rights
  -- no pair has two associations
  pub associated_once : AreOnce has_ends D.associations
  -- each joins elements of fitting kinds, with rights that have a name
  pub associations : Each (IsAssociation D) D.associations
  pub few_associations : length D.associations ≤ max_associations
  -- no two prohibitions have one name
  pub prohibited_once : AreOnce (λ (p q : DocProhibition). bytes_eq p.name q.name) D.prohibitions
  -- each names a subject, rights and places that stand
  pub prohibitions : Each (IsProhibition D) D.prohibitions
  pub few_prohibitions : length D.prohibitions ≤ max_prohibitions
