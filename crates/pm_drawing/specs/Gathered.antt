-- What is read of a graph's tables, before it is put in order. The project's own.
use Rattle.std.specs.Prelude.{ℕ, Bool, not, ◌==◌, List, [], ◌∷◌, ◌++◌, filter, map, Option, None, Some}
use Rattle.pm_model.specs.Effect.{is_builtin, is_builtin_element}
use Rattle.pm_model.specs.Formed.{IsLive}
use Rattle.pm_model.specs.State.{Graph, element_at, name_numbered}
use Rattle.pm_model.specs.declared.elements.Element.{Element}
use Rattle.pm_model.specs.declared.elements.Kind.TheVariants.{Pc}
use Rattle.pm_model.specs.declared.prohibitions.Prohibition.{Prohibition}
use Rattle.pm_model.specs.declared.prohibitions.Subject.{Subject}
use Rattle.pm_model.specs.declared.prohibitions.Subject.TheVariants as subject
use Rattle.pm_model.specs.declared.rights.Association.{Association}
use Rattle.pm_by_name.specs.Keyed.{by_bytes}
use Rattle.pm_by_name.specs.declared.by_name.ByBytes.{ByBytes}
use Rattle.pm_policy.specs.Policy.{assignment, doc_element}
use Rattle.pm_policy.specs.PolicyOf.{association, doc_of, doc_prohibition, is_on_process, rights_named, subject_named}
use Rattle.pm_policy.specs.declared.policy.DocAssignment.{DocAssignment}
use Rattle.pm_policy.specs.declared.policy.DocAssociation.{DocAssociation}
use Rattle.pm_policy.specs.declared.policy.DocElement.{DocElement}
use Rattle.pm_policy.specs.declared.policy.DocProhibition.{DocProhibition}

-- of each of these numbers, one after another, the items that are its
abbrev pub gathered : {X : Type 0} → (ℕ → X → Bool) → List ℕ → List X → List X
gathered is_of [] xs = []
gathered is_of (n ∷ ns) xs = filter (is_of n) xs ++ gathered is_of ns xs

-- ---- elements

abbrev pub doc_or_none : Option Element → DocElement
doc_or_none None = doc_element Pc []
doc_or_none (Some e) = doc_of e

-- the live element of a number
abbrev pub doc_numbered : List Element → ℕ → DocElement
doc_numbered es n = doc_or_none (element_at es n)

-- no element of the opening
abbrev pub is_own : ℕ → Bool
is_own n = not (is_builtin_element n)

-- ---- pairs

-- both ends are live
abbrev pub AreLive : List Element → ℕ × ℕ → Type 0
AreLive es p = IsLive es p.0 × IsLive es p.1

-- no assignment of the opening
abbrev pub is_own_pair : ℕ × ℕ → Bool
is_own_pair p = not (is_builtin p.0 p.1)

abbrev pub pair_named : List Element → ℕ × ℕ → DocAssignment
pair_named es p = assignment (name_numbered es p.0) (name_numbered es p.1)

abbrev pub is_of_attribute : ℕ → Association → Bool
is_of_attribute ua a = a.ua == ua

-- both ends are live
abbrev pub JoinsLive : List Element → Association → Type 0
JoinsLive es a = IsLive es a.ua × IsLive es a.at

-- with the names of its ends as a key
abbrev pub ends_entry : List Element → Association → (ByBytes × ByBytes) × Association
ends_entry es a = ((by_bytes (name_numbered es a.ua), by_bytes (name_numbered es a.at)), a)

abbrev pub association_named : List Element → List (List ℕ) → Association → DocAssociation
association_named es rights a = association (name_numbered es a.ua) (rights_named rights a.rights) (name_numbered es a.at)

-- ---- prohibitions

-- the subject by name, but of a process
abbrev pub subject_shown : Graph → Subject ℕ ℕ → Option (Subject (List ℕ) ℕ)
subject_shown G (subject.Process n) = None
subject_shown G s = Some (subject_named G s)

-- by names, but with this subject
abbrev pub prohibition_as : Graph → Prohibition → Subject (List ℕ) ℕ → DocProhibition
prohibition_as G p s =
    doc_prohibition p.name s (rights_named G.rights p.rights) (map (name_numbered G.elements) p.inc) (map (name_numbered G.elements) p.exc) p.mode

-- it is on no process
abbrev pub is_shown : Prohibition → Bool
is_shown p = not (is_on_process p.subject)
