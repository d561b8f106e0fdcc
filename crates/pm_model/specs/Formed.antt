-- Well formed: what every reachable graph keeps. Source: the standard's constraints on assignments (of certain kinds,
-- acyclic, each element leads to a policy class); names, limits and the opening elements are the project's own.
use Rattle.std.specs.Prelude.{◌≡◌, ◌<◌, ◌^◌, ◌-◌, ℕ, ◌+◌, ◌&&◌, true, false, ◌≤◌, List, [], ◌∷◌, length, map, take, bytes_eq, IsSome, Some, None, IfSome}
use Rattle.std.specs.List.{list_any}
use Rattle.pm_model.specs.Containment.{contained, Leads}
use Rattle.pm_model.specs.RightSet.{opening_rights, max_rights}
use Rattle.pm_model.specs.declared.rights.Association.{Association}
use Rattle.pm_model.specs.State.{is_class, Graph, element_at, is_named, root, opening_elements, opening_assigned}
use Rattle.pm_model.specs.Sessions.{Procs, session, process, session_at, process_at, max_sessions, max_processes}
use Rattle.pm_model.specs.declared.sessions.Session.{Session}
use Rattle.pm_model.specs.declared.sessions.Process.{Process}
use Rattle.pm_model.specs.Effect.{both, has_kind, is_user_kind, may_keep, may_watch, may_assign, is_pair, may_associate, joins, max_elements, max_assignments, max_associations}
use Rattle.pm_model.specs.Resolve.{unused}
use Rattle.pm_model.specs.declared.elements.Kind.TheVariants.{Pc}
use Rattle.pm_model.specs.declared.elements.Element.{Element}
use Rattle.pm_model.specs.declared.requests.Change.{Change}
use Rattle.pm_model.specs.declared.requests.Change.TheVariants as change
use Rattle.pm_model.specs.Prohibitions.{is_called, has_empty_range, max_prohibitions}
use Rattle.pm_model.specs.Obligations as obliged
use Rattle.pm_model.specs.KeptReviews.{KeptReview, is_kept_of, kept_at, max_reviews, subject}
use Rattle.pm_model.specs.declared.obligations.Obligation.{Obligation}
use Rattle.pm_model.specs.declared.prohibitions.Prohibition.{Prohibition}
use Rattle.pm_model.specs.declared.prohibitions.Subject.{Subject}
use Rattle.pm_model.specs.declared.prohibitions.Subject.TheVariants as acting

-- the fact holds of each item
abbrev pub Each : {X : Type 0} → (X → Type 0) → List X → Type 0
Each P [] = Unit {0}
Each P (x ∷ xs) = P x × Each P xs

abbrev pub IsLive : List Element → ℕ → Type 0
IsLive es n = IsSome (element_at es n)

-- the element is live, and a user
abbrev pub IsUser : List Element → ℕ → Type 0
IsUser es n = has_kind is_user_kind (element_at es n) ≡ true

-- ---- elements

-- the numbers rise, and the first is at least n
abbrev pub AreRising : ℕ → List Element → Type 0
AreRising n [] = Unit {0}
AreRising n (e ∷ es) = (n ≤ e.number) × AreRising (e.number + 1) es

-- no two have one name
abbrev pub HaveOwnNames : List Element → Type 0
HaveOwnNames [] = Unit {0}
HaveOwnNames (e ∷ es) = (list_any (is_named e.name) es ≡ false) × HaveOwnNames es

pub record AreElements (es : List Element) : Type 0 where
  pub rising : AreRising 0 es
  pub named : HaveOwnNames es
  pub few : length es ≤ max_elements

-- ---- assignments

-- both ends are live, and of kinds that may be assigned
abbrev pub JoinsKinds : List Element → (ℕ × ℕ) → Type 0
JoinsKinds es pair = both may_assign (element_at es pair.0) (element_at es pair.1) ≡ true

-- no pair stands twice
abbrev pub StandOnce : List (ℕ × ℕ) → Type 0
StandOnce [] = Unit {0}
StandOnce (pair ∷ pairs) = (list_any (is_pair pair.0 pair.1) pairs ≡ false) × StandOnce pairs

-- no list of more than one element leads by assignments from an element to itself
abbrev pub IsAcyclic : List (ℕ × ℕ) → Type 0
IsAcyclic assigned = (x z : ℕ) (rest : List ℕ) → Leads assigned x (z ∷ rest) x → ⊥

-- some class contains the element; a class contains itself
abbrev pub IsInClass : List Element → List (ℕ × ℕ) → Element → Type 0
IsInClass es assigned e = list_any (λ c. is_class c && contained assigned e.number c.number) es ≡ true

pub record AreAssigned (es : List Element) (assigned : List (ℕ × ℕ)) : Type 0 where
  pub kinds : Each (JoinsKinds es) assigned
  pub once : StandOnce assigned
  pub acyclic : IsAcyclic assigned
  pub classes : Each (IsInClass es assigned) es
  pub few : length assigned ≤ max_assignments

-- ---- associations

-- the ends are live, and of kinds that may be associated
abbrev pub JoinsAttributes : List Element → Association → Type 0
JoinsAttributes es a = both may_associate (element_at es a.ua) (element_at es a.at) ≡ true

-- no pair has two
abbrev pub JoinOnce : List Association → Type 0
JoinOnce [] = Unit {0}
JoinOnce (a ∷ rest) = (list_any (joins a.ua a.at) rest ≡ false) × JoinOnce rest

-- the user attributes rise
abbrev pub AreByAttribute : ℕ → List Association → Type 0
AreByAttribute n [] = Unit {0}
AreByAttribute n (a ∷ rest) = (n ≤ a.ua) × AreByAttribute a.ua rest

-- each right of the set has a name
abbrev pub AreNamed : List (List ℕ) → ℕ → Type 0
AreNamed rights set = set < 2 ^ length rights

pub record AreAssociations (es : List Element) (rights : List (List ℕ)) (associations : List Association) : Type 0 where
  pub kinds : Each (JoinsAttributes es) associations
  pub once : JoinOnce associations
  pub ordered : AreByAttribute 0 associations
  pub named : Each (λ (a : Association). AreNamed rights a.rights) associations
  pub few : length associations ≤ max_associations

-- ---- sessions and processes

-- the numbers rise, the first is at least `low`, and all are below `high`
abbrev pub RiseBelow : ℕ → List ℕ → ℕ → Type 0
RiseBelow low [] high = low ≤ high
RiseBelow low (n ∷ ns) high = (low ≤ n) × RiseBelow (n + 1) ns high

-- numbers rise and were all given before the next one
pub record AreNumbered (P : Procs) : Type 0 where
  pub sessions : RiseBelow 0 (map (λ (s : Session). s.number) P.sessions) P.next_session
  pub processes : RiseBelow 0 (map (λ (p : Process). p.number) P.processes) P.next_process

pub record AreProcs (es : List Element) (P : Procs) : Type 0 where
  pub numbered : AreNumbered P
  pub users : Each (λ (s : Session). IsUser es s.user) P.sessions
  pub in_sessions : Each (λ (p : Process). IsSome (session_at P p.session)) P.processes
  pub opening_session : session_at P 0 ≡ Some (session 0 root)
  pub opening_process : process_at P 0 ≡ Some (process 0 0)
  pub few_sessions : length P.sessions ≤ max_sessions
  pub few_processes : length P.processes ≤ max_processes

-- ---- prohibitions

-- no two have one name
abbrev pub AreOnceCalled : List Prohibition → Type 0
AreOnceCalled [] = Unit {0}
AreOnceCalled (p ∷ ps) = (list_any (is_called p.name) ps ≡ false) × AreOnceCalled ps

-- the subject is live
abbrev pub IsSubjectLive : List Element → Procs → Subject ℕ ℕ → Type 0
IsSubjectLive es P (acting.User n) = IsLive es n
IsSubjectLive es P (acting.Ua n) = IsLive es n
IsSubjectLive es P (acting.Process n) = IsSome (process_at P n)

-- what the prohibition names is live, each of its rights has a name, and its sets aren't both empty
pub record IsProhibition (es : List Element) (P : Procs) (rights : List (List ℕ)) (p : Prohibition) : Type 0 where
  pub subject : IsSubjectLive es P p.subject
  pub inc : Each (IsLive es) p.inc
  pub exc : Each (IsLive es) p.exc
  pub named : AreNamed rights p.rights
  pub ranged : has_empty_range p ≡ false

pub record AreProhibitions (es : List Element) (P : Procs) (rights : List (List ℕ)) (ps : List Prohibition) : Type 0 where
  pub once : AreOnceCalled ps
  pub each : Each (IsProhibition es P rights) ps
  pub few : length ps ≤ max_prohibitions

-- ---- obligations

-- no two have one name
abbrev pub AreOnceObliged : List Obligation → Type 0
AreOnceObliged [] = Unit {0}
AreOnceObliged (o ∷ os) = (list_any (obliged.is_called o.name) os ≡ false) × AreOnceObliged os

-- the author is a live user, and what the pattern gives is live: a user or a user attribute, and any target
pub record IsObligation (es : List Element) (o : Obligation) : Type 0 where
  pub author : IsUser es o.author
  pub user : may_watch es o.pattern.user ≡ true
  pub target : IfSome o.pattern.target (IsLive es)

pub record AreObligations (es : List Element) (os : List Obligation) : Type 0 where
  pub once : AreOnceObliged os
  pub each : Each (IsObligation es) os
  pub few : length os ≤ obliged.max_obligations

-- ---- kept reviews

-- no two are of the same
abbrev pub AreOnceKept : List KeptReview → Type 0
AreOnceKept [] = Unit {0}
AreOnceKept (k ∷ ks) = (list_any (is_kept_of k.of) ks ≡ false) × AreOnceKept ks

-- it is of a live element, the capabilities of a user
pub record IsKeptReview (es : List Element) (k : KeptReview) : Type 0 where
  pub live : IsLive es (subject k.of)
  pub kinds : may_keep es k.of ≡ true

pub record AreKept (es : List Element) (ks : List KeptReview) : Type 0 where
  pub numbered : RiseBelow 0 (map (λ (k : KeptReview). k.number) ks) max_reviews
  pub once : AreOnceKept ks
  pub each : Each (IsKeptReview es) ks
  pub few : length ks ≤ max_reviews

-- ---- rights

-- no name stands twice
abbrev pub NameOnce : List (List ℕ) → Type 0
NameOnce [] = Unit {0}
NameOnce (n ∷ ns) = (list_any (bytes_eq n) ns ≡ false) × NameOnce ns

pub record AreRights (rights : List (List ℕ)) : Type 0 where
  pub opening : take 17 rights ≡ opening_rights
  pub once : NameOnce rights
  pub few : length rights ≤ max_rights

-- ---- the opening's

-- the element stands as it is
abbrev pub Stands : List Element → Element → Type 0
Stands es e = element_at es e.number ≡ Some e

abbrev pub StandsAssigned : List (ℕ × ℕ) → (ℕ × ℕ) → Type 0
StandsAssigned assigned pair = list_any (is_pair pair.0 pair.1) assigned ≡ true

-- the opening's elements and assignments stand
pub record HasOpening (es : List Element) (pairs : List (ℕ × ℕ)) : Type 0 where
  pub elements : Each (Stands es) opening_elements
  pub assigned : Each (StandsAssigned pairs) opening_assigned

pub record IsWellFormed (G : Graph) : Type 0 where
  pub elements : AreElements G.elements
  pub assigned : AreAssigned G.elements G.assigned
  pub associations : AreAssociations G.elements G.rights G.associations
  pub prohibitions : AreProhibitions G.elements G.procs G.rights G.prohibitions
  pub obligations : AreObligations G.elements G.obligations
  pub rights : AreRights G.rights
  pub procs : AreProcs G.elements G.procs
  pub kept : AreKept G.elements G.kept
  pub opening : HasOpening G.elements G.assigned

-- numbers of sessions and processes are of 32 bits
abbrev pub HasNext : ℕ → Type 0
HasNext next = next < 2 ^ 32 - 1

-- what the change names is live, what it makes has the next number, and there is a next number for a new session or
-- process; of a session or process that is named the preconditions say whether it is live
abbrev pub IsNamed : Graph → Change → Type 0
IsNamed G (change.Create id kind name None) = (id ≡ unused G.elements) × (kind ≡ Pc)
IsNamed G (change.Create id kind name (Some into)) = (id ≡ unused G.elements) × IsLive G.elements into
IsNamed G (change.Delete id) = IsLive G.elements id
IsNamed G (change.Assign x y) = IsLive G.elements x × IsLive G.elements y
IsNamed G (change.Deassign x y) = IsLive G.elements x × IsLive G.elements y
IsNamed G (change.Associate u r t) = IsLive G.elements u × IsLive G.elements t × AreNamed G.rights r
IsNamed G (change.Dissociate u t) = IsLive G.elements u × IsLive G.elements t
IsNamed G (change.OpenSession u) = IsLive G.elements u × HasNext G.procs.next_session
IsNamed G (change.CloseSession n) = Unit {0}
IsNamed G (change.StartProcess n) = HasNext G.procs.next_process
IsNamed G (change.EndProcess n) = Unit {0}
IsNamed G (change.Prohibit p) =
    IsSubjectLive G.elements G.procs p.subject × Each (IsLive G.elements) p.inc × Each (IsLive G.elements) p.exc × AreNamed G.rights p.rights
IsNamed G (change.Lift i) = i < length G.prohibitions
IsNamed G (change.Oblige o) = IsUser G.elements o.author × IfSome o.pattern.user (IsLive G.elements) × IfSome o.pattern.target (IsLive G.elements)
IsNamed G (change.Withdraw i) = i < length G.obligations
IsNamed G (change.DefineRight name) = Unit {0}
IsNamed G (change.Keep of) = IsLive G.elements (subject of)
IsNamed G (change.DropReview n) = IsSome (kept_at G.kept n)
