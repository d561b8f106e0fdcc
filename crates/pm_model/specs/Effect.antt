-- What a change does: the first of its preconditions that isn't met, or the new graph. Source: the standard's
-- administrative commands, each a precondition and an update of the relations; the order of the preconditions, a full
-- table last, is the project's own. One clause of `checks` and one of `changed` for each change.
use Rattle.std.specs.Prelude.{◌≡◌, ℕ, Bool, true, false, not, ◌==◌, ◌&&◌, ◌||◌, ◌++◌, nat_le, nat_lt, List, [], ◌∷◌, length, Option, None, Some, Result, filter, if◌then◌else◌, is_some}
use Rattle.std.specs.List.{list_any, list_all, remove}
use Rattle.pm_model.specs.Results.{first_of, unless}
use Rattle.pm_model.specs.State.{Graph, element, element_at, is_named, is_numbered}
use Rattle.pm_model.specs.Containment.{contained}
use Rattle.pm_model.specs.Prohibitions.{prohibit_checks, without_processes, names_element}
use Rattle.pm_model.specs.Obligations.{oblige_checks, concerns}
use Rattle.pm_model.specs.KeptReviews.{keep_checks, new_review, reviews, unkept, with_review, without_review}
use Rattle.pm_model.specs.RightSet.{define_checks}
use Rattle.pm_model.specs.declared.prohibitions.Prohibition.{Prohibition}
use Rattle.pm_model.specs.declared.prohibitions.Subject.{Subject}
use Rattle.pm_model.specs.declared.prohibitions.Subject.TheVariants as subject
use Rattle.pm_model.specs.Sessions.{processes_of, is_session_of, open_checks, close_checks, start_checks, end_checks, with_session, without_session, with_process, without_process}
use Rattle.pm_model.specs.declared.elements.Kind.{Kind}
use Rattle.pm_model.specs.declared.elements.Kind.TheVariants.{User, Ua, Object, Oa, Pc}
use Rattle.pm_model.specs.declared.elements.Element.{Element}
use Rattle.pm_model.specs.declared.requests.Change.{Change}
use Rattle.pm_model.specs.declared.requests.Change.TheVariants as change
use Rattle.pm_model.specs.declared.rights.Association.{Association}
use Rattle.pm_model.specs.declared.replies.Refusal.{Refusal}
use Rattle.pm_model.specs.declared.replies.Refusal.TheVariants.{BadKinds, NameTaken, Already, Absent, Cycle, Occupied, InUse, LastContainer, Builtin, Full}
use Rattle.pm_model.specs.declared.replies.Table.TheVariants.{Elements, Assignments, Associations}
use Rattle.pm_model.specs.declared.reviews.ReviewOf.{ReviewOf}
use Rattle.pm_model.specs.declared.reviews.ReviewOf.TheVariants as of
use Rattle.pm_model.specs.declared.replies.ChangeError.{ChangeError}
use Rattle.pm_model.specs.declared.replies.ChangeError.TheVariants.{Refused, Memory}

abbrev pub max_elements : ℕ
max_elements = 16384

abbrev pub max_assignments : ℕ
max_assignments = 131072

abbrev pub max_associations : ℕ
max_associations = 65536

-- ---- kinds

-- which kind may be assigned to which: the standard's, and an object directly to a class
abbrev pub may_assign : Kind → Kind → Bool
may_assign User Ua = true
may_assign Ua Ua = true
may_assign Ua Pc = true
may_assign Object Oa = true
may_assign Object Pc = true
may_assign Oa Oa = true
may_assign Oa Pc = true
may_assign _ _ = false

-- which kinds an association may join: the standard's, and an object directly
abbrev pub may_associate : Kind → Kind → Bool
may_associate Ua Ua = true
may_associate Ua Oa = true
may_associate Ua Object = true
may_associate _ _ = false

abbrev pub both : (Kind → Kind → Bool) → Option Element → Option Element → Bool
both fits (Some a) (Some b) = fits a.kind b.kind
both fits _ _ = false

abbrev pub is_user_kind : Kind → Bool
is_user_kind User = true
is_user_kind _ = false

abbrev pub is_ua_kind : Kind → Bool
is_ua_kind Ua = true
is_ua_kind _ = false

-- what may stand in a set of a prohibition
abbrev pub is_place_kind : Kind → Bool
is_place_kind Ua = true
is_place_kind Oa = true
is_place_kind Object = true
is_place_kind _ = false

abbrev pub has_kind : (Kind → Bool) → Option Element → Bool
has_kind fits (Some e) = fits e.kind
has_kind fits None = false

abbrev pub is_place : List Element → ℕ → Bool
is_place es n = has_kind is_place_kind (element_at es n)

abbrev pub has_subject_kind : List Element → Subject ℕ ℕ → Bool
has_subject_kind es (subject.User n) = has_kind is_user_kind (element_at es n)
has_subject_kind es (subject.Ua n) = has_kind is_ua_kind (element_at es n)
has_subject_kind es (subject.Process n) = true

-- which kinds a prohibition may name
abbrev pub may_prohibit : List Element → Prohibition → Bool
may_prohibit es p = has_subject_kind es p.subject && list_all (is_place es) p.inc && list_all (is_place es) p.exc

abbrev pub is_actor_kind : Kind → Bool
is_actor_kind User = true
is_actor_kind Ua = true
is_actor_kind _ = false

-- the user of a pattern is a user or a user attribute, where one is given
abbrev pub may_watch : List Element → Option ℕ → Bool
may_watch es None = true
may_watch es (Some n) = has_kind is_actor_kind (element_at es n)

-- whether an element of this kind may be made there; without a container it is a class
abbrev pub may_create : List Element → Kind → Option ℕ → Bool
may_create es kind None = true
may_create es kind (Some into) = both may_assign (Some (element 0 kind [])) (element_at es into)

-- the capabilities are those of a user; the entries may be those of any element
abbrev pub may_keep : List Element → ReviewOf ℕ → Bool
may_keep es (of.Caps u) = has_kind is_user_kind (element_at es u)
may_keep es (of.Entries e) = true

-- ---- lists

-- the list with this element at its place by number
abbrev pub placed : Element → List Element → List Element
placed x [] = x ∷ []
placed x (e ∷ es) = if nat_lt x.number e.number then x ∷ e ∷ es else e ∷ placed x es

abbrev pub is_pair : ℕ → ℕ → (ℕ × ℕ) → Bool
is_pair x y pair = pair.0 == x && pair.1 == y

abbrev pub is_from : ℕ → (ℕ × ℕ) → Bool
is_from x pair = pair.0 == x

-- the list with this assignment behind those of elements up to its own
abbrev pub with_assignment : (ℕ × ℕ) → List (ℕ × ℕ) → List (ℕ × ℕ)
with_assignment p [] = p ∷ []
with_assignment p (q ∷ qs) = if nat_lt p.0 q.0 then p ∷ q ∷ qs else q ∷ with_assignment p qs

-- the assignments with that of a new element to its container, where it has one
abbrev pub with_pair : Option ℕ → ℕ → List (ℕ × ℕ) → List (ℕ × ℕ)
with_pair None x pairs = pairs
with_pair (Some y) x pairs = with_assignment (x, y) pairs

abbrev pub joins : ℕ → ℕ → Association → Bool
joins ua at a = a.ua == ua && a.at == at

-- the list with this association behind those of attributes up to its own
abbrev pub joined : Association → List Association → List Association
joined a [] = a ∷ []
joined a (b ∷ bs) = if nat_lt a.ua b.ua then a ∷ b ∷ bs else b ∷ joined a bs

-- an assignment of the opening state
abbrev pub is_builtin : ℕ → ℕ → Bool
is_builtin x y = (x == 1 && y == 0) || (x == 2 && y == 1)

-- an element of the opening state
abbrev pub is_builtin_element : ℕ → Bool
is_builtin_element n = nat_lt n 3

abbrev pub is_to : ℕ → (ℕ × ℕ) → Bool
is_to y pair = pair.1 == y

-- whether something is assigned to the element
abbrev pub has_child : List (ℕ × ℕ) → ℕ → Bool
has_child pairs y = list_any (is_to y) pairs

-- the element is at one end of the association
abbrev pub has_end : ℕ → Association → Bool
has_end id a = a.ua == id || a.at == id

-- an association, a prohibition, an obligation or a session names the element, or a kept review is of it
abbrev pub is_in_use : Graph → ℕ → Bool
is_in_use G id =
    list_any (has_end id) G.associations || list_any (names_element id) G.prohibitions
    || list_any (concerns id) G.obligations || list_any (is_session_of id) G.procs.sessions || list_any (reviews id) G.kept

-- ---- preconditions in order: when each isn't met, and what is answered then

abbrev pub create_checks : List Element → List (ℕ × ℕ) → Kind → List ℕ → Option ℕ → List (Bool × Refusal)
create_checks es pairs kind name into =
    (not (may_create es kind into), BadKinds)
    ∷ (list_any (is_named name) es, NameTaken)
    ∷ (nat_le max_elements (length es), Full Elements)
    ∷ (is_some into && nat_le max_assignments (length pairs), Full Assignments) ∷ []

abbrev pub assign_checks : List Element → List (ℕ × ℕ) → ℕ → ℕ → List (Bool × Refusal)
assign_checks es pairs x y =
    (not (both may_assign (element_at es x) (element_at es y)), BadKinds)
    ∷ (list_any (is_pair x y) pairs, Already)
    ∷ (contained pairs y x, Cycle)
    ∷ (nat_le max_assignments (length pairs), Full Assignments) ∷ []

abbrev pub deassign_checks : List (ℕ × ℕ) → ℕ → ℕ → List (Bool × Refusal)
deassign_checks pairs x y =
    (not (list_any (is_pair x y) pairs), Absent)
    ∷ (length (filter (is_from x) pairs) == 1, LastContainer) ∷ []

abbrev pub associate_checks : List Association → ℕ → ℕ → List (Bool × Refusal)
associate_checks associations ua at =
    (list_any (joins ua at) associations, Already)
    ∷ (nat_le max_associations (length associations), Full Associations) ∷ []

abbrev pub dissociate_checks : List Association → ℕ → ℕ → List (Bool × Refusal)
dissociate_checks associations ua at = (not (list_any (joins ua at) associations), Absent) ∷ []

abbrev pub checks : Graph → Change → List (Bool × Refusal)
checks G (change.Create id kind name into) = create_checks G.elements G.assigned kind name into
checks G (change.Delete id) =
    (is_builtin_element id, Builtin) ∷ (has_child G.assigned id, Occupied) ∷ (is_in_use G id, InUse) ∷ []
checks G (change.Assign x y) = assign_checks G.elements G.assigned x y
checks G (change.Deassign x y) = (is_builtin x y, Builtin) ∷ deassign_checks G.assigned x y
checks G (change.Associate u r t) =
    (not (both may_associate (element_at G.elements u) (element_at G.elements t)), BadKinds) ∷ associate_checks G.associations u t
checks G (change.Dissociate u t) = dissociate_checks G.associations u t
checks G (change.OpenSession u) = (not (has_kind is_user_kind (element_at G.elements u)), BadKinds) ∷ open_checks G.procs
checks G (change.CloseSession n) = close_checks G.procs n
checks G (change.StartProcess n) = start_checks G.procs n
checks G (change.EndProcess n) = end_checks G.procs n
checks G (change.Prohibit p) = (not (may_prohibit G.elements p), BadKinds) ∷ prohibit_checks G.prohibitions p
checks G (change.Lift i) = []
checks G (change.Oblige o) = (not (may_watch G.elements o.pattern.user), BadKinds) ∷ oblige_checks G.obligations o
checks G (change.Withdraw i) = []
checks G (change.DefineRight name) = define_checks G.rights name
checks G (change.Keep of) = (not (may_keep G.elements of), BadKinds) ∷ keep_checks G.kept of
checks G (change.DropReview n) = []

-- ---- effects

abbrev pub changed : Graph → Change → Graph
changed G (change.Create id kind name into) =
    record G { elements = placed (element id kind name) G.elements; assigned = with_pair into id G.assigned }
changed G (change.Delete id) =
    record G {
      elements = filter (λ e. not (is_numbered id e)) G.elements;
      assigned = filter (λ pair. not (is_from id pair)) G.assigned;
    }
changed G (change.Assign x y) = record G { assigned = with_assignment (x, y) G.assigned }
changed G (change.Deassign x y) = record G { assigned = filter (λ pair. not (is_pair x y pair)) G.assigned }
changed G (change.Associate u r t) = record G { associations = joined (record { ua = u; rights = r; at = t }) G.associations }
changed G (change.Dissociate u t) = record G { associations = filter (λ a. not (joins u t a)) G.associations }
changed G (change.OpenSession u) = record G { procs = with_session u G.procs }
changed G (change.CloseSession n) =
    record G { procs = without_session n G.procs; prohibitions = without_processes (processes_of G.procs n) G.prohibitions }
changed G (change.StartProcess n) = record G { procs = with_process n G.procs }
changed G (change.EndProcess n) =
    record G { procs = without_process n G.procs; prohibitions = without_processes (n ∷ []) G.prohibitions }
changed G (change.Prohibit p) = record G { prohibitions = G.prohibitions ++ p ∷ [] }
changed G (change.Lift i) = record G { prohibitions = remove G.prohibitions i }
changed G (change.Oblige o) = record G { obligations = G.obligations ++ o ∷ [] }
changed G (change.Withdraw i) = record G { obligations = remove G.obligations i }
changed G (change.DefineRight name) = record G { rights = G.rights ++ name ∷ [] }
changed G (change.Keep of) = record G { kept = with_review (new_review (unkept G.kept) of) G.kept }
changed G (change.DropReview n) = record G { kept = without_review n G.kept }

abbrev pub refusal : Graph → Change → Option Refusal
refusal G change = first_of (checks G change)

abbrev pub effect : Graph → Change → Result Graph Refusal
effect G change = unless (refusal G change) (changed G change)

-- the error is this refusal, or want of memory
abbrev pub IsCause : Option Refusal → ChangeError → Type 0
IsCause why (Refused told) = why ≡ Some told
IsCause why Memory = Unit {0}
