-- The policy machine's state, as lists. Source: the basic elements and relations of the standard (INCITS 565) and of
-- NIST IR 7987 Rev. 1; the numbers, the version and the opening state are the project's own.
use Rattle.std.specs.Prelude.{ℕ, Bool, true, false, ◌==◌, map, filter, List, [], ◌∷◌, codes, bytes_eq, Option, None, Some, option_map, find}
use Rattle.pm_model.specs.declared.elements.Kind.{Kind}
use Rattle.pm_model.specs.declared.elements.Kind.TheVariants.{User, Ua, Pc}
use Rattle.pm_model.specs.declared.elements.Element.{Element}
use Rattle.pm_model.specs.declared.rights.Association.{Association}
use Rattle.pm_model.specs.declared.prohibitions.Prohibition.{Prohibition}
use Rattle.pm_model.specs.declared.obligations.Obligation.{Obligation}
use Rattle.pm_model.specs.KeptReviews.{KeptReview}
use Rattle.pm_model.specs.RightSet.{opening_rights}
use Rattle.pm_model.specs.Sessions.{Procs, opening_procs}

-- what commands change
pub record Graph : Type 0 where
  -- the live policy elements, by rising number
  pub elements : List Element
  -- the assignments, by rising element assigned, those of one in order of creation
  pub assigned : List (ℕ × ℕ)
  -- the associations, by rising user attribute, those of one in order of creation
  pub associations : List Association
  -- the prohibitions, in order of creation
  pub prohibitions : List Prohibition
  -- the obligations, in order of creation
  pub obligations : List Obligation
  -- the names of the rights, by bit
  pub rights : List (List ℕ)
  -- the sessions and their processes
  pub procs : Procs
  -- the kept reviews, by rising number
  pub kept : List KeptReview

pub record State : Type 0 where
  pub graph : Graph
  -- how many entries were accepted
  pub version : ℕ

abbrev pub element : ℕ → Kind → List ℕ → Element
element n k s = record { number = n; kind = k; name = s }

abbrev pub is_numbered : ℕ → Element → Bool
is_numbered n e = e.number == n

abbrev pub is_named : List ℕ → Element → Bool
is_named name e = bytes_eq name e.name

-- the live element of a number
abbrev pub element_at : List Element → ℕ → Option Element
element_at es n = find (is_numbered n) es

-- the number of the live element of a name
abbrev pub number_named : List Element → List ℕ → Option ℕ
number_named es name = option_map (λ (e : Element). e.number) (find (is_named name) es)

abbrev pub name_or_none : Option Element → List ℕ
name_or_none (Some e) = e.name
name_or_none None = []

-- the name of the live element of a number
abbrev pub name_numbered : List Element → ℕ → List ℕ
name_numbered es n = name_or_none (element_at es n)

abbrev pub is_class_kind : Kind → Bool
is_class_kind Pc = true
is_class_kind _ = false

abbrev pub is_class : Element → Bool
is_class e = is_class_kind e.kind

-- the numbers of the live policy classes, by rising number
abbrev pub classes_in : List Element → List ℕ
classes_in es = map (λ (e : Element). e.number) (filter is_class es)

-- the root user
abbrev pub root : ℕ
root = 2

abbrev pub opening_elements : List Element
opening_elements = element 0 Pc (codes "pm") ∷ element 1 Ua (codes "pm_admins") ∷ element 2 User (codes "root") ∷ []

abbrev pub opening_assigned : List (ℕ × ℕ)
opening_assigned = (1, 0) ∷ (2, 1) ∷ []

abbrev pub opening_graph : Graph
opening_graph =
    record {
      elements = opening_elements;
      assigned = opening_assigned;
      associations = [];
      prohibitions = [];
      obligations = [];
      rights = opening_rights;
      procs = opening_procs root;
      kept = [];
    }

-- the state at the start: the class `pm`, its administrators, the user `root` among them, and a session and a process of it
abbrev pub opening : State
opening = record { graph = opening_graph; version = 0 }
