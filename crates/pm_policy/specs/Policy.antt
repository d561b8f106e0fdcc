-- The elements and assignments of a policy document by names, and the elements that stand before any request. The project's own.
use Rattle.std.specs.Prelude.{ℕ, Bool, ◌&&◌, List, [], ◌∷◌, ◌++◌, codes, bytes_eq, Option, find}
use Rattle.pm_model.specs.declared.elements.Kind.{Kind}
use Rattle.pm_model.specs.declared.elements.Kind.TheVariants.{User, Ua, Pc}
use Rattle.pm_policy.specs.declared.policy.DocElement.{DocElement}
use Rattle.pm_policy.specs.declared.policy.DocAssignment.{DocAssignment}

abbrev pub doc_element : Kind → List ℕ → DocElement
doc_element kind name = record { kind = kind; name = name }

abbrev pub assignment : List ℕ → List ℕ → DocAssignment
assignment from to = record { from = from; to = to }

abbrev pub is_called : List ℕ → DocElement → Bool
is_called name e = bytes_eq name e.name

abbrev pub is_assigned : List ℕ → DocAssignment → Bool
is_assigned name p = bytes_eq name p.from

abbrev pub is_same : DocAssignment → DocAssignment → Bool
is_same p q = bytes_eq p.from q.from && bytes_eq p.to q.to

-- the elements of the opening
abbrev pub opening_docs : List DocElement
opening_docs = doc_element Pc (codes "pm") ∷ doc_element Ua (codes "pm_admins") ∷ doc_element User (codes "root") ∷ []

-- the document's elements behind those of the opening
abbrev pub standing : List DocElement → List DocElement
standing es = opening_docs ++ es

-- the element of a name
abbrev pub called : List DocElement → List ℕ → Option DocElement
called es name = find (is_called name) es
