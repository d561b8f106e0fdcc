-- The rules of assignments, associations and prohibitions as tests, over the elements that stand and the names of the rights that there
-- are. The project's own.
use Rattle.std.specs.Prelude.{codes, ℕ, Bool, false, not, ◌&&◌, ◌||◌, ◌==◌, List, length, bytes_eq}
use Rattle.std.specs.List.{list_any, list_all}
use Rattle.pm_model.specs.State.{is_class_kind}
use Rattle.pm_model.specs.Effect.{may_associate, is_user_kind, is_ua_kind, is_place_kind}
use Rattle.pm_model.specs.declared.prohibitions.Subject.{Subject}
use Rattle.pm_model.specs.declared.prohibitions.Subject.TheVariants as subject
use Rattle.pm_policy.specs.Policy.{assignment, called, is_same}
use Rattle.pm_policy.specs.Sound.{both, has_kind}
use Rattle.pm_policy.specs.declared.policy.DocElement.{DocElement}
use Rattle.pm_policy.specs.declared.policy.DocAssignment.{DocAssignment}
use Rattle.pm_policy.specs.declared.policy.DocAssociation.{DocAssociation}
use Rattle.pm_policy.specs.declared.policy.DocProhibition.{DocProhibition}

-- it is none of the opening
abbrev pub is_new : DocAssignment → Bool
is_new p = not (is_same (assignment (codes "pm_admins") (codes "pm")) p) && not (is_same (assignment (codes "root") (codes "pm_admins")) p)

-- an element that has these containers keeps its rule: a class may have none
abbrev pub has_any : DocElement → List ℕ → Bool
has_any e containers = is_class_kind e.kind || not (length containers == 0)

-- each of these names is that of a right
abbrev pub are_rights : List (List ℕ) → List (List ℕ) → Bool
are_rights rights names = list_all (λ name. list_any (bytes_eq name) rights) names

abbrev pub fits_association : List DocElement → List (List ℕ) → DocAssociation → Bool
fits_association es rights a = both may_associate (called es a.ua) (called es a.at) && are_rights rights a.rights

abbrev pub is_subject : List DocElement → Subject (List ℕ) ℕ → Bool
is_subject es (subject.User name) = has_kind is_user_kind (called es name)
is_subject es (subject.Ua name) = has_kind is_ua_kind (called es name)
is_subject es (subject.Process n) = false

abbrev pub are_places : List DocElement → List (List ℕ) → Bool
are_places es names = list_all (λ name. has_kind is_place_kind (called es name)) names

abbrev pub fits_prohibition : List DocElement → List (List ℕ) → DocProhibition → Bool
fits_prohibition es rights p =
    is_subject es p.subject && are_rights rights p.rights && are_places es p.inc && are_places es p.exc
    && not (length p.inc == 0 && length p.exc == 0)
