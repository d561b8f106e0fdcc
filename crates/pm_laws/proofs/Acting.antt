-- Processes, in the standard's words: each acts for one user, and none is left of a session that is closed.
use Rattle.std.proofs.Common.{◌≡◌, ◌↔◌, ℕ, Some, Bool, true, false, not, refl, subst, Contains, IsSome, eq-eqb}
use Rattle.pm_model.specs.State.{Graph}
use Rattle.pm_model.specs.Sessions.{Procs, session_at, process_at, user_of, processes_of, is_session, is_of_session}
use Rattle.pm_model.specs.Prohibitions.{is_process_in}
use Rattle.pm_model.specs.Effect.{changed}
use Rattle.pm_model.specs.Formed.{IsWellFormed}
use Rattle.pm_model.specs.declared.requests.Change.TheVariants.{CloseSession}
use Rattle.pm_model.specs.declared.sessions.Session.{Session}
use Rattle.pm_model.specs.declared.sessions.Process.{Process}
use Rattle.pm_model.specs.declared.prohibitions.Prohibition.{Prohibition}
use Rattle.pm_laws.specs.Meaning.{ActsFor, ActsForOne, IsGone}
use Rattle.pm_laws.proofs.Items.{each-at, filter-contains, find-is}
use Rattle.pm_laws.proofs.Live.{user-found, user-is}
use Rattle.pm_laws.proofs.Procs.{rise-found, session-is, process-is}
use Rattle.pm_laws.proofs.Prohibitions.{processes-of}

-- ---- one user

user-from : (P : Procs) (n : ℕ) (p : Process) (s : Session) → process_at P n ≡ Some p → session_at P p.session ≡ Some s →
    user_of P n ≡ Some s.user
user-from P n p s at of = rw (at, of) refl

-- the user that is looked up is the one for whom the process acts
pub user_acted_for : (G : Graph) (n u : ℕ) → IsWellFormed G → (user_of G.procs n ≡ Some u) ↔ ActsFor G n u
user_acted_for G n u f = (to, from) where
  to : user_of G.procs n ≡ Some u → ActsFor G n u
  to h =
      let found = user-found G.procs n u h in
      let p = process-is G.procs n found.0 found.2 in
      let s = session-is G.procs found.0.session found.1 found.3 in (found.0, found.1, p.0, p.1, s.0, s.1, found.4)

  from : ActsFor G n u → user_of G.procs n ≡ Some u
  from (p, s, there, numbered, standing, of, is) =
      let by_number = rise-found (λ (p : Process). p.number) 0 G.procs.processes G.procs.next_process p f.procs.numbered.processes there in
      let by_session = rise-found (λ (s : Session). s.number) 0 G.procs.sessions G.procs.next_session s f.procs.numbered.sessions standing in
      let at : process_at G.procs n ≡ Some p = subst (λ k. process_at G.procs k ≡ Some p) numbered by_number in
      let in_session : session_at G.procs p.session ≡ Some s = subst (λ k. session_at G.procs k ≡ Some s) of by_session in
      rw (← is) (user-from G.procs n p s at in_session)

pub process_acts_for_one_user : (G : Graph) (p : Process) → IsWellFormed G → Contains G.procs.processes p →
    (u : ℕ) × (user_of G.procs p.number ≡ Some u) × ActsForOne G p.number u
process_acts_for_one_user G p f c =
    let there = find-is (is_session p.session) G.procs.sessions
    (each-at (λ (p : Process). IsSome (session_at G.procs p.session)) G.procs.processes p f.procs.in_sessions c) in
    let u = there.0.user in
    let at : process_at G.procs p.number ≡ Some p =
    rise-found (λ (p : Process). p.number) 0 G.procs.processes G.procs.next_process p f.procs.numbered.processes c in
    let is = user-from G.procs p.number p there.0 at there.1 in (
      u,
      is,
      record {
        acts = (user_acted_for G p.number u f).0 is;
        user = user-is G p.number u f is;
        only = λ v acts. let also = (user_acted_for G p.number v f).1 acts in cc;
      },
    )

-- ---- a session closed

pub closed_session_is_gone : (G : Graph) (n : ℕ) → IsGone G (changed G (CloseSession n)) n
closed_session_is_gone G n = record {
  session = λ s c is.
      let kept = (filter-contains (λ s. not (is_session n s)) G.procs.sessions s c).1 in
      let found = eq-eqb s.number n is in both-ways (is_session n s) found kept;
  processes = λ p c is.
      let kept = (filter-contains (λ p. not (is_of_session n p)) G.procs.processes p c).1 in
      let found = eq-eqb p.session n is in both-ways (is_of_session n p) found kept;
  prohibitions = λ q p c there is on.
      let kept = (filter-contains (λ (q : Prohibition). not (is_process_in (processes_of G.procs n) q.subject)) G.prohibitions q c).1 in
      let found = processes-of G.procs n p there (eq-eqb p.session n is) in
      both-ways (is_process_in (processes_of G.procs n) q.subject) (rw on found) kept;
} where
  both-ways : (b : Bool) → b ≡ true → not b ≡ true → ⊥
  both-ways b is kept = let goes : not b ≡ false = rw is refl in cc
