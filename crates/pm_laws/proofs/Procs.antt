-- Sessions and processes, where one comes or goes: one lemma for each change of the lists.
use Rattle.std.proofs.Common.{◌≡◌, ◌≤◌, ◌<◌, ◌+◌, ◌==◌, ℕ, List, [], ◌∷◌, ◌++◌, length, map, Some, IsSome, Bool, true, false, not, refl, arith, length-append, filter, Contains, inl, inr, eq-eqb}
use Rattle.std.specs.List.{list_any, find}
use Rattle.std.proofs.lemmas.Bool.{eqb-true, eqb-false, ne_eqb, not_from_false}
use Rattle.pm_model.specs.State.{root}
use Rattle.pm_model.specs.Sessions.{Procs, session, process, is_session, is_process, is_of_session, session_at, process_at, max_sessions, max_processes, with_session, without_session, with_process, without_process}
use Rattle.pm_model.specs.Effect.{placed}
use Rattle.pm_model.specs.Resolve.{unused}
use Rattle.pm_model.specs.Formed.{IsUser, RiseBelow, AreProcs, AreElements}
use Rattle.pm_model.specs.declared.elements.Element.{Element}
use Rattle.pm_model.specs.declared.sessions.Session.{Session}
use Rattle.pm_model.specs.declared.sessions.Process.{Process}
use Rattle.pm_laws.proofs.Items.{each-push, each-filter, each-to, each-at, each-from, filter-contains, length-filter, filter-split, contains-cases, contains-none, find-is, find-live, find-any, find-push, find-filter, find-found}
use Rattle.pm_laws.proofs.Numbers.{live-placed}
use Rattle.pm_laws.proofs.Ends.{user-lives}

-- ---- numbers that rise

module _ {X : Type 0} (number : X → ℕ) where
  rise-lower : (m n : ℕ) (xs : List X) (high : ℕ) → n ≤ m → RiseBelow m (map number xs) high → RiseBelow n (map number xs) high
  rise-lower m n [] high less h = omega (arith, less, h)
  rise-lower m n (x ∷ xs) high less h = (omega (arith, less, h.0), h.1)

  -- the next number, at the end
  pub rise-push : (low : ℕ) (xs : List X) (x : X) (high : ℕ) → RiseBelow low (map number xs) high → number x ≡ high →
      RiseBelow low (map number (xs ++ x ∷ [])) (high + 1)
  rise-push low [] x high h same = (omega (arith, same, h), omega (arith, same))
  rise-push low (y ∷ xs) x high h same = (h.0, rise-push (number y + 1) xs x high h.1 same)

  pub rise-filter : (test : X → Bool) (low : ℕ) (xs : List X) (high : ℕ) → RiseBelow low (map number xs) high →
      RiseBelow low (map number (filter test xs)) high
  rise-filter test low [] high h = h
  rise-filter test low (x ∷ xs) high h = let rest = rise-filter test (number x + 1) xs high h.1 in
      filter-split test (λ l. RiseBelow low (map number l) high) x xs (λ is. (h.0, rest))
      (λ is. rise-lower (number x + 1) low (filter test xs) high (omega (arith, h.0)) rest)

  -- each is below the next
  pub rise-at : (low : ℕ) (xs : List X) (high : ℕ) (x : X) → RiseBelow low (map number xs) high → Contains xs x →
      (low ≤ number x) × (number x < high)
  rise-at low [] high x h c = contains-none x c
  rise-at low (y ∷ xs) high x h c = elim (contains-cases y x xs c) [
    | inl same ↦ let up = rise-least (number y + 1) xs high h.1 in rw (← same) (h.0, omega (arith, up))
    | inr below ↦ let p = rise-at (number y + 1) xs high x h.1 below in (omega (arith, p.0, h.0), p.1)
  ] where
    rise-least : (m : ℕ) (ys : List X) (high : ℕ) → RiseBelow m (map number ys) high → m ≤ high
    rise-least m [] high h = h
    rise-least m (y ∷ ys) high h = let up = rise-least (number y + 1) ys high h.1 in omega (arith, h.0, up)

  -- an item of the list is the one that is found by its number
  pub rise-found : (low : ℕ) (xs : List X) (high : ℕ) (x : X) → RiseBelow low (map number xs) high → Contains xs x →
      find (λ y. number y == number x) xs ≡ Some x
  rise-found low [] high x h c = contains-none x c
  rise-found low (y ∷ xs) high x h c = elim (contains-cases y x xs c) [
    | inl same ↦ rw (same, eq-eqb (number x) (number x) refl) refl
    | inr below ↦
        let later = (rise-at (number y + 1) xs high x h.1 below).0 in
        rw (ne_eqb (number y) (number x) (λ same. omega (arith, same, later))) (rise-found (number y + 1) xs high x h.1 below)
  ]

-- ---- what stays

-- another number than n
other : (m n : ℕ) → (m ≡ n → ⊥) → not (m == n) ≡ true
other m n apart = not_from_false (m == n) (ne_eqb m n apart)

pub session-is : (P : Procs) (n : ℕ) (s : Session) → session_at P n ≡ Some s → Contains P.sessions s × (s.number ≡ n)
session-is P n s h = let p = find-found (is_session n) P.sessions s h in (p.0, eqb-true s.number n p.1)

pub process-is : (P : Procs) (n : ℕ) (p : Process) → process_at P n ≡ Some p → Contains P.processes p × (p.number ≡ n)
process-is P n p h = let q = find-found (is_process n) P.processes p h in (q.0, eqb-true p.number n q.1)

-- a session opened
pub procs-opened : (es : List Element) (P : Procs) (u : ℕ) → AreProcs es P → IsUser es u → length P.sessions < max_sessions →
    AreProcs es (with_session u P)
procs-opened es P u h user room = let s = session P.next_session u in let l = length-append P.sessions (s ∷ []) in record {
  numbered = record {
    sessions = rise-push (λ (s : Session). s.number) 0 P.sessions s P.next_session h.numbered.sessions refl;
    processes = h.numbered.processes;
  };
  users = each-push (λ (s : Session). IsUser es s.user) P.sessions s h.users user;
  in_sessions = each-to (λ (p : Process). IsSome (session_at P p.session)) (λ (p : Process). IsSome (session_at (with_session u P) p.session))
      (λ p there.
      let f = find-is (is_session p.session) P.sessions there in
      find-live (is_session p.session) (P.sessions ++ s ∷ []) f.0 (find-push (is_session p.session) P.sessions s f.0 f.1))
      P.processes h.in_sessions;
  opening_session = find-push (is_session 0) P.sessions s (session 0 root) h.opening_session;
  opening_process = h.opening_process;
  few_sessions = omega (arith, l, room);
  few_processes = h.few_processes;
}

-- a session closed
pub procs-closed : (es : List Element) (P : Procs) (n : ℕ) → AreProcs es P → (n == 0) ≡ false → AreProcs es (without_session n P)
procs-closed es P n h not_first =
    let ls = length-filter (λ s. not (is_session n s)) P.sessions in
    let lp = length-filter (λ p. not (is_of_session n p)) P.processes in record {
      numbered = record {
        sessions = rise-filter (λ (s : Session). s.number) (λ s. not (is_session n s)) 0 P.sessions P.next_session h.numbered.sessions;
        processes = rise-filter (λ (p : Process). p.number) (λ p. not (is_of_session n p)) 0 P.processes P.next_process h.numbered.processes;
      };
      users = each-filter (λ (s : Session). IsUser es s.user) (λ s. not (is_session n s)) P.sessions h.users;
      in_sessions = each-from (λ (p : Process). IsSome (session_at (without_session n P) p.session))
          (filter (λ p. not (is_of_session n p)) P.processes) stays;
      opening_session = find-filter (is_session 0) (λ s. not (is_session n s)) P.sessions (session 0 root) h.opening_session (other 0 n first);
      opening_process = find-filter (is_process 0) (λ p. not (is_of_session n p)) P.processes (process 0 0) h.opening_process (other 0 n first);
      few_sessions = omega (arith, ls, h.few_sessions);
      few_processes = omega (arith, lp, h.few_processes);
    } where
      first : 0 ≡ n → ⊥
      first same = let no = eqb-false n 0 not_first in omega (arith, no, same)

      stays : (p : Process) → Contains (filter (λ p. not (is_of_session n p)) P.processes) p →
          IsSome (session_at (without_session n P) p.session)
      stays p c =
          let old = filter-contains (λ (p : Process). not (is_of_session n p)) P.processes p c in
          let there = each-at (λ (p : Process). IsSome (session_at P p.session)) P.processes p h.in_sessions old.0 in
          let f = find-is (is_session p.session) P.sessions there in
          let same : f.0.number ≡ p.session = (session-is P p.session f.0 f.1).1 in
          let kept : not (is_session n f.0) ≡ true = rw same old.1 in
          find-live (is_session p.session) (filter (λ s. not (is_session n s)) P.sessions) f.0
          (find-filter (is_session p.session) (λ s. not (is_session n s)) P.sessions f.0 f.1 kept)

-- a process started
pub procs-started : (es : List Element) (P : Procs) (n : ℕ) → AreProcs es P → list_any (is_session n) P.sessions ≡ true →
    length P.processes < max_processes → AreProcs es (with_process n P)
procs-started es P n h there room = let p = process P.next_process n in let l = length-append P.processes (p ∷ []) in record {
  numbered = record {
    sessions = h.numbered.sessions;
    processes = rise-push (λ (p : Process). p.number) 0 P.processes p P.next_process h.numbered.processes refl;
  };
  users = h.users;
  in_sessions = each-push (λ (p : Process). IsSome (session_at P p.session)) P.processes p h.in_sessions (find-any (is_session n) P.sessions there);
  opening_session = h.opening_session;
  opening_process = find-push (is_process 0) P.processes p (process 0 0) h.opening_process;
  few_sessions = h.few_sessions;
  few_processes = omega (arith, l, room);
}

-- a process ended
pub procs-ended : (es : List Element) (P : Procs) (n : ℕ) → AreProcs es P → (n == 0) ≡ false → AreProcs es (without_process n P)
procs-ended es P n h not_first = let l = length-filter (λ p. not (is_process n p)) P.processes in record {
  numbered = record {
    sessions = h.numbered.sessions;
    processes = rise-filter (λ (p : Process). p.number) (λ p. not (is_process n p)) 0 P.processes P.next_process h.numbered.processes;
  };
  users = h.users;
  in_sessions = each-filter (λ (p : Process). IsSome (session_at P p.session)) (λ p. not (is_process n p)) P.processes h.in_sessions;
  opening_session = h.opening_session;
  opening_process = find-filter (is_process 0) (λ p. not (is_process n p)) P.processes (process 0 0) h.opening_process (other 0 n first);
  few_sessions = h.few_sessions;
  few_processes = omega (arith, l, h.few_processes);
} where
  first : 0 ≡ n → ⊥
  first same = let no = eqb-false n 0 not_first in omega (arith, no, same)

-- an element more
pub procs-placed : (es : List Element) (x : Element) (P : Procs) → AreElements es → x.number ≡ unused es → AreProcs es P →
    AreProcs (placed x es) P
procs-placed es x P e u h = record {
  numbered = h.numbered;
  users = each-to (λ (s : Session). IsUser es s.user) (λ (s : Session). IsUser (placed x es) s.user)
      (λ s user. rw (live-placed x es s.user e.rising u (user-lives es s.user user)) user) P.sessions h.users;
  in_sessions = h.in_sessions;
  opening_session = h.opening_session;
  opening_process = h.opening_process;
  few_sessions = h.few_sessions;
  few_processes = h.few_processes;
}
