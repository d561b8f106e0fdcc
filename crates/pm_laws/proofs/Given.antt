-- Numbers of sessions and processes: each is given once.
use Rattle.std.proofs.Common.{◌≡◌, ◌≤◌, ◌<◌, ◌+◌, ℕ, List, [], ◌∷◌, ◌++◌, Bool, Ok, refl, subst, arith, not, filter, inl, inr}
use Rattle.std.proofs.lemmas.List.Elements.{Contains-push_cases}
use Rattle.pm_model.specs.State.{Graph}
use Rattle.pm_model.specs.Sessions.{session, process, is_session, is_process, is_of_session}
use Rattle.pm_model.specs.Effect.{refusal, changed, effect}
use Rattle.pm_model.specs.Formed.{Each, IsWellFormed}
use Rattle.pm_model.specs.declared.sessions.Session.{Session}
use Rattle.pm_model.specs.declared.sessions.Process.{Process}
use Rattle.pm_model.specs.declared.requests.Change.{Change}
use Rattle.pm_model.specs.declared.requests.Change.TheVariants as change
use Rattle.pm_laws.specs.Meaning.{GivesNext, GiveNext}
use Rattle.pm_laws.proofs.Items.{each-from, filter-contains}
use Rattle.pm_laws.proofs.Checks.{unless-ok}
use Rattle.pm_laws.proofs.Procs.{rise-at}

-- ---- one list

module _ {X : Type 0} (number : X → ℕ) where
  given-none : (xs : List X) (next : ℕ) → GivesNext number xs xs next next
  given-none xs next = record { rises = omega arith; by_one = omega arith; fresh = λ x c. inl c }

  given-one : (xs : List X) (x : X) (next : ℕ) → number x ≡ next → GivesNext number xs (xs ++ x ∷ []) next (next + 1)
  given-one xs x next is = record {
    rises = omega arith;
    by_one = omega arith;
    fresh = λ y c. elim (Contains-push_cases xs x y c) [
      | inl old ↦ inl old
      | inr new ↦ inr (subst (λ z. number z ≡ next) new is, omega arith)
    ];
  }

  given-fewer : (test : X → Bool) (xs : List X) (next : ℕ) → GivesNext number xs (filter test xs) next next
  given-fewer test xs next = record { rises = omega arith; by_one = omega arith; fresh = λ x c. inl (filter-contains test xs x c).0 }

-- ---- changes

changed-gives : (G : Graph) (c : Change) → GiveNext G (changed G c)
changed-gives G c = of c where
  sessions : GivesNext (λ (s : Session). s.number) G.procs.sessions G.procs.sessions G.procs.next_session G.procs.next_session
  sessions = given-none (λ (s : Session). s.number) G.procs.sessions G.procs.next_session

  processes : GivesNext (λ (p : Process). p.number) G.procs.processes G.procs.processes G.procs.next_process G.procs.next_process
  processes = given-none (λ (p : Process). p.number) G.procs.processes G.procs.next_process

  of : (c : Change) → GiveNext G (changed G c)
  of (change.Create id kind name into) = (sessions, processes)
  of (change.Delete id) = (sessions, processes)
  of (change.Assign x y) = (sessions, processes)
  of (change.Deassign x y) = (sessions, processes)
  of (change.Associate u r t) = (sessions, processes)
  of (change.Dissociate u t) = (sessions, processes)
  of (change.OpenSession u) =
      (given-one (λ (s : Session). s.number) G.procs.sessions (session G.procs.next_session u) G.procs.next_session refl, processes)
  of (change.CloseSession n) = (
    given-fewer (λ (s : Session). s.number) (λ s. not (is_session n s)) G.procs.sessions G.procs.next_session,
    given-fewer (λ (p : Process). p.number) (λ p. not (is_of_session n p)) G.procs.processes G.procs.next_process,
  )
  of (change.StartProcess n) =
      (sessions, given-one (λ (p : Process). p.number) G.procs.processes (process G.procs.next_process n) G.procs.next_process refl)
  of (change.EndProcess n) =
      (sessions, given-fewer (λ (p : Process). p.number) (λ p. not (is_process n p)) G.procs.processes G.procs.next_process)
  of (change.Prohibit p) = (sessions, processes)
  of (change.Lift i) = (sessions, processes)
  of (change.Oblige o) = (sessions, processes)
  of (change.Withdraw i) = (sessions, processes)
  of (change.DefineRight name) = (sessions, processes)
  of (change.Keep r) = (sessions, processes)
  of (change.DropReview n) = (sessions, processes)

-- what an effect makes has the next numbers
pub numbers-given : (G H : Graph) (c : Change) → effect G c ≡ Ok H → GiveNext G H
numbers-given G H c e = subst (GiveNext G) (unless-ok (refusal G c) (changed G c) H e).1 (changed-gives G c)

-- a change gives one number more at most
pub next-numbers : (G H : Graph) (c : Change) → effect G c ≡ Ok H →
    (H.procs.next_session ≤ G.procs.next_session + 1) × (H.procs.next_process ≤ G.procs.next_process + 1)
next-numbers G H c e = let g = numbers-given G H c e in (g.0.by_one, g.1.by_one)

-- each number that stands was given before the next one
pub numbers-below : (G : Graph) → IsWellFormed G →
    Each (λ (s : Session). s.number < G.procs.next_session) G.procs.sessions
    × Each (λ (p : Process). p.number < G.procs.next_process) G.procs.processes
numbers-below G f = (
  each-from (λ (s : Session). s.number < G.procs.next_session) G.procs.sessions
      (λ s c. (rise-at (λ (s : Session). s.number) 0 G.procs.sessions G.procs.next_session s f.procs.numbered.sessions c).1),
  each-from (λ (p : Process). p.number < G.procs.next_process) G.procs.processes
      (λ p c. (rise-at (λ (p : Process). p.number) 0 G.procs.processes G.procs.next_process p f.procs.numbered.processes c).1),
)
