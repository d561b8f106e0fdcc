-- What the definitions come to, in the standard's words: assignments join elements of certain kinds and order them, each
-- element leads to a policy class, each process acts for one user, and an obligation's pattern says which events it
-- matches. What is said of names and of numbers is the project's own.
use Rattle.std.specs.Prelude.{◌≡◌, ◌≤◌, ◌<◌, ◌+◌, ◌⊎◌, ℕ, List, [], length, take, slice_get, Contains, None, Some, IfSome, true}
use Rattle.pm_model.specs.State.{State, Graph, element_at}
use Rattle.pm_model.specs.Containment.{IsContained}
use Rattle.pm_model.specs.Effect.{may_assign}
use Rattle.pm_model.specs.KeptReviews.{KeptReview, kept_at}
use Rattle.pm_model.specs.LastChanges.{changes_in, with_last}
use Rattle.pm_model.specs.Answer.{answer, longest_history}
use Rattle.pm_model.specs.History.{replay}
use Rattle.pm_model.specs.Formed.{IsUser, IsWellFormed}
use Rattle.pm_model.specs.declared.elements.Kind.TheVariants.{Pc}
use Rattle.pm_model.specs.declared.elements.Element.{Element}
use Rattle.pm_model.specs.declared.events.Event.{Event}
use Rattle.pm_model.specs.declared.events.Pattern.{Pattern}
use Rattle.pm_model.specs.declared.requests.Entry.{Entry}
use Rattle.pm_model.specs.declared.replies.Reply.{Reply}
use Rattle.pm_model.specs.declared.replies.Reply.TheVariants.{Done}
use Rattle.pm_model.specs.declared.replies.Shown.{Shown}
use Rattle.pm_model.specs.declared.replies.Shown.TheVariants as shown
use Rattle.pm_model.specs.declared.sessions.Session.{Session}
use Rattle.pm_model.specs.declared.sessions.Process.{Process}
use Rattle.pm_model.specs.declared.prohibitions.Prohibition.{Prohibition}
use Rattle.pm_model.specs.declared.prohibitions.Subject.TheVariants as subject

pub record IsPartialOrder (Below : ℕ → ℕ → Type 0) : Type 0 where
  pub reflexive : (x : ℕ) → Below x x
  pub transitive : (x y z : ℕ) → Below x y → Below y z → Below x z
  pub antisymmetric : (x y : ℕ) → Below x y → Below y x → x ≡ y

-- a policy class of the graph contains the element
abbrev pub IsInClass : Graph → Element → Type 0
IsInClass G e = (c : Element) × Contains G.elements c × (c.kind ≡ Pc) × IsContained G.assigned e.number c.number

-- both ends are live, and of kinds that may be assigned
abbrev pub IsJoined : Graph → ℕ → ℕ → Type 0
IsJoined G x y =
    (a : Element) × (b : Element) × (element_at G.elements x ≡ Some a) × (element_at G.elements y ≡ Some b)
    × (may_assign a.kind b.kind ≡ true)

-- the element of the number has the name
abbrev pub IsNumberOf : Graph → ℕ → List ℕ → Type 0
IsNumberOf G n name = (e : Element) × (element_at G.elements n ≡ Some e) × (e.name ≡ name)

-- the live process of the number is of a live session of the user
abbrev pub ActsFor : Graph → ℕ → ℕ → Type 0
ActsFor G n u =
    (p : Process) × (s : Session) × Contains G.procs.processes p × (p.number ≡ n) × Contains G.procs.sessions s × (s.number ≡ p.session)
    × (s.user ≡ u)

-- the process acts for this live user, and for no other
pub record ActsForOne (G : Graph) (n u : ℕ) : Type 0 where
  pub acts : ActsFor G n u
  pub user : IsUser G.elements u
  pub only : (v : ℕ) → ActsFor G n v → v ≡ u

-- of the session of G that H no longer has nothing is left there: neither it, nor a process of it, nor a prohibition on one
pub record IsGone (G H : Graph) (n : ℕ) : Type 0 where
  pub session : (s : Session) → Contains H.procs.sessions s → s.number ≡ n → ⊥
  pub processes : (p : Process) → Contains H.procs.processes p → p.session ≡ n → ⊥
  pub prohibitions : (q : Prohibition) (p : Process) → Contains H.prohibitions q → Contains G.procs.processes p → p.session ≡ n →
      q.subject ≡ subject.Process p.number → ⊥

-- what is new has the next number, which then rises above it; it rises by one at most, and never falls
pub record GivesNext {X : Type 0} (number : X → ℕ) (old new : List X) (next later : ℕ) : Type 0 where
  pub rises : next ≤ later
  pub by_one : later ≤ next + 1
  pub fresh : (x : X) → Contains new x → Contains old x ⊎ ((number x ≡ next) × (next < later))

-- so it is with the sessions and with the processes
abbrev pub GiveNext : Graph → Graph → Type 0
GiveNext G H =
    GivesNext (λ (s : Session). s.number) G.procs.sessions H.procs.sessions G.procs.next_session H.procs.next_session
    × GivesNext (λ (p : Process). p.number) G.procs.processes H.procs.processes G.procs.next_process H.procs.next_process

-- ---- obligations

-- what is done is the pattern's operation; where the pattern gives a user, the event's user is contained in it, and where it
-- gives a target, the event's target
pub record IsMatched (G : Graph) (pattern : Pattern) (event : Event) : Type 0 where
  pub operation : event.operation ≡ pattern.on
  pub user : IfSome pattern.user (IsContained G.assigned event.user)
  pub target : IfSome pattern.target (IsContained G.assigned event.target)

-- ---- kept reviews

-- reviews don't tell the two graphs apart: their elements, assignments, associations and prohibitions are the same
pub record AreAlike (G H : Graph) : Type 0 where
  pub elements : H.elements ≡ G.elements
  pub assigned : H.assigned ≡ G.assigned
  pub associations : H.associations ≡ G.associations
  pub prohibitions : H.prohibitions ≡ G.prohibitions

-- the last change of a review that is kept all along is the one between the two graphs, of the later version, where there is
-- one, and else as before; a review that is new has none
pub record TellLast (S T : State) : Type 0 where
  pub kept : (n : ℕ) (k j : KeptReview) → kept_at S.graph.kept n ≡ Some k → kept_at T.graph.kept n ≡ Some j →
      j ≡ with_last T.version (changes_in S.graph T.graph k.of) k
  pub new : (n : ℕ) (j : KeptReview) → kept_at S.graph.kept n ≡ None → kept_at T.graph.kept n ≡ Some j → (j.at ≡ 0) × (j.changed ≡ [])

-- ---- histories

-- the version bounds the numbers given to sessions and to processes, behind those of the opening
pub record AreGivenBy (S : State) : Type 0 where
  pub sessions : S.graph.procs.next_session ≤ S.version + 1
  pub processes : S.graph.procs.next_process ≤ S.version + 1

-- this state may be where the history has led
pub record IsReached (H : List Entry) (S : State) : Type 0 where
  pub formed : IsWellFormed S.graph
  pub given : AreGivenBy S
  pub counted : S.version ≡ length H
  pub short : length H ≤ longest_history

-- ---- what the replies of a history tell

-- the entry at this place, from 0, is answered so after the entries before it
abbrev pub IsRepliedAt : List Entry → ℕ → Reply → Type 0
IsRepliedAt H i reply = (e : Entry) × (slice_get H i ≡ Some e) × ((answer (replay (take i H)) e.request).reply ≡ reply)

-- of two replies that tell a number, the later tells the higher one
abbrev pub Rise : (ℕ → Shown) → List Entry → Type 0
Rise tells H = (i j a b m n : ℕ) → i < j → IsRepliedAt H i (Done a (tells m)) → IsRepliedAt H j (Done b (tells n)) → m < n

-- so none is told twice, of a session or of a process
pub record TellsOnce (H : List Entry) : Type 0 where
  pub sessions : Rise shown.Session H
  pub processes : Rise shown.Process H
