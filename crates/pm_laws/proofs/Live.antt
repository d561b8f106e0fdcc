-- What is live in a well formed graph: its classes, both ends of each association, what prohibitions name, the authors of
-- obligations, the users of processes, and the root user.
use Rattle.std.proofs.Common.{◌≡◌, ℕ, Bool, true, Option, Some, None, IsTrue, is_some, option_map, option_and_then, filter, Contains, refl, subst}
use Rattle.std.specs.List.{All}
use Rattle.std.proofs.lemmas.List.Elements.{All-contains, All-contains_itself, All-filter, All-map}
use Rattle.pm_model.specs.State.{Graph, element_at, is_class, classes_in}
use Rattle.pm_model.specs.Sessions.{Procs, session_at, process_at, user_of_session, user_of}
use Rattle.pm_model.specs.Effect.{may_associate}
use Rattle.pm_model.specs.Formed.{Each, IsLive, IsUser, IsSubjectLive, IsProhibition, IsObligation, JoinsAttributes, IsWellFormed}
use Rattle.pm_model.specs.declared.elements.Element.{Element}
use Rattle.pm_model.specs.declared.rights.Association.{Association}
use Rattle.pm_model.specs.declared.obligations.Obligation.{Obligation}
use Rattle.pm_model.specs.declared.prohibitions.Prohibition.{Prohibition}
use Rattle.pm_model.specs.declared.prohibitions.Subject.{Subject}
use Rattle.pm_model.specs.declared.prohibitions.Subject.TheVariants.{User, Ua, Process}
use Rattle.pm_model.specs.declared.sessions.Session.{Session}
use Rattle.pm_model.specs.declared.sessions.Process as process
use Rattle.pm_laws.proofs.Items.{each-to, each-at, each-all}
use Rattle.pm_laws.proofs.Procs.{session-is}
use Rattle.pm_laws.proofs.Numbers.{stands-at, live-some}
use Rattle.pm_laws.proofs.Ends.{both-live, user-lives}

-- each class is live
pub classes-live : (G : Graph) → IsWellFormed G → All (λ n. IsTrue (is_some (element_at G.elements n))) (classes_in G.elements)
classes-live G f =
    All-map (IsLive G.elements) (λ (e : Element). e.number) (filter is_class G.elements)
    (All-filter is_class (λ (e : Element). IsLive G.elements e.number) G.elements
    (λ k d below. stands _ (All-contains_itself G.elements k d below))) where
      stands : (e : Element) → Contains G.elements e → IsLive G.elements e.number
      stands e c = live-some G.elements e.number e (stands-at 0 G.elements e f.elements.rising c)

pub class-live : (G : Graph) (pc : ℕ) → IsWellFormed G → Contains (classes_in G.elements) pc → IsTrue (is_some (element_at G.elements pc))
class-live G pc f c = All-contains (IsLive G.elements) (classes_in G.elements) pc (classes-live G f) c

-- both ends of each association are live
pub ends-live : (G : Graph) → IsWellFormed G →
    Each (λ (a : Association). IsTrue (is_some (element_at G.elements a.ua)) × IsTrue (is_some (element_at G.elements a.at))) G.associations
ends-live G f =
    each-to (JoinsAttributes G.elements) (λ (a : Association). IsLive G.elements a.ua × IsLive G.elements a.at)
    (λ a fits. both-live may_associate (element_at G.elements a.ua) (element_at G.elements a.at) fits) G.associations f.associations.kinds

-- the subject is live, where it is an element
abbrev pub is_subject_in : (ℕ → Bool) → Subject ℕ ℕ → Bool
is_subject_in live (User n) = live n
is_subject_in live (Ua n) = live n
is_subject_in live (Process n) = true

abbrev pub IsSubjectIn : (ℕ → Bool) → Subject ℕ ℕ → Type 0
IsSubjectIn live s = IsTrue (is_subject_in live s)

-- all that the prohibition names is live
abbrev pub NamesIn : (ℕ → Bool) → Prohibition → Type 0
NamesIn live p = IsSubjectIn live p.subject × All (λ n. IsTrue (live n)) p.inc × All (λ n. IsTrue (live n)) p.exc

-- all that each prohibition names is live
pub prohibitions-live : (G : Graph) → IsWellFormed G → Each (NamesIn (λ n. is_some (element_at G.elements n))) G.prohibitions
prohibitions-live G f =
    each-to (IsProhibition G.elements G.procs G.rights) (NamesIn live)
    (λ p is. (of p.subject is.subject, each-all (IsLive G.elements) p.inc is.inc, each-all (IsLive G.elements) p.exc is.exc))
    G.prohibitions f.prohibitions.each where
      live : ℕ → Bool
      live n = is_some (element_at G.elements n)

      of : (s : Subject ℕ ℕ) → IsSubjectLive G.elements G.procs s → IsSubjectIn live s
      of (User n) h = h
      of (Ua n) h = h
      of (Process n) h = refl

-- the author of an obligation is a user
pub author_is : (G : Graph) (o : Obligation) → IsWellFormed G → Contains G.obligations o → IsUser G.elements o.author
author_is G o f c = (each-at (IsObligation G.elements) G.obligations o f.obligations.each c).author

-- the user of a process, by the process and its session
pub user-found : (P : Procs) (n u : ℕ) → user_of P n ≡ Some u →
    (p : process.Process) × (s : Session) × (process_at P n ≡ Some p) × (session_at P p.session ≡ Some s) × (s.user ≡ u)
user-found P n u h = of (process_at P n) refl h where
  with-session : (p : process.Process) → process_at P n ≡ Some p → (o : Option Session) → session_at P p.session ≡ o →
      option_map (λ (s : Session). s.user) o ≡ Some u →
      (p : process.Process) × (s : Session) × (process_at P n ≡ Some p) × (session_at P p.session ≡ Some s) × (s.user ≡ u)
  with-session p at (Some s) is h = (p, s, at, is, cc)
  with-session p at None is h = absurd (cc)

  of : (o : Option process.Process) → process_at P n ≡ o →
      option_and_then (λ (p : process.Process). user_of_session P p.session) o ≡ Some u →
      (p : process.Process) × (s : Session) × (process_at P n ≡ Some p) × (session_at P p.session ≡ Some s) × (s.user ≡ u)
  of (Some p) is h = with-session p is (session_at P p.session) refl h
  of None is h = absurd (cc)

-- the user of a process is a user
pub user-is : (G : Graph) (p u : ℕ) → IsWellFormed G → user_of G.procs p ≡ Some u → IsUser G.elements u
user-is G p u f h =
    let found = user-found G.procs p u h in
    let there = (session-is G.procs found.0.session found.1 found.3).0 in
    subst (IsUser G.elements) found.4 (each-at (λ (s : Session). IsUser G.elements s.user) G.procs.sessions found.1 f.procs.users there)

-- and so live
pub user-live : (G : Graph) (p u : ℕ) → IsWellFormed G → user_of G.procs p ≡ Some u → IsLive G.elements u
user-live G p u f h = user-lives G.elements u (user-is G p u f h)
