-- Numbers rise below the next one, whatever is changed.
use Rattle.std.proofs.Common.{◌≡◌, ℕ, ◌+◌, ◌≤◌, List, [], ◌∷◌, ◌++◌, map, filter, not, Bool, true, false, refl, arith}
use Rattle.std.proofs.lemmas.List.{map_push}
use Rattle.pm_model.specs.Formed.{AreNumbered, RiseBelow}
use Rattle.pm_model.specs.Sessions.{Procs, session, process, is_session, is_process, is_of_session, with_session, without_session, with_process, without_process}
use Rattle.pm_model.specs.declared.sessions.Session.{Session}
use Rattle.pm_model.specs.declared.sessions.Process.{Process}
use Rattle.pm_procs.specs.Rising.{AreRising}

-- the next number at the end
RiseBelow-push : (low high : ℕ) (ns : List ℕ) → RiseBelow low ns high → RiseBelow low (ns ++ high ∷ []) (high + 1)
RiseBelow-push low high [] h = (h, omega arith)
RiseBelow-push low high (n ∷ ns) h = (h.0, RiseBelow-push (n + 1) high ns h.1)

RiseBelow-lower : (low least high : ℕ) (ns : List ℕ) → RiseBelow least ns high → low ≤ least → RiseBelow low ns high
RiseBelow-lower low least high [] h lower = omega (arith, h, lower)
RiseBelow-lower low least high (n ∷ ns) h lower = (omega (arith, h.0, lower), h.1)

module _ {X : Type 0} (number : X → ℕ) where
  below-pushed : (high : ℕ) (xs : List X) (x : X) → number x ≡ high → RiseBelow 0 (map number xs) high →
      RiseBelow 0 (map number (xs ++ x ∷ [])) (high + 1)
  below-pushed high xs x is h = rw (map_push number xs x, is) (RiseBelow-push 0 high (map number xs) h)

  below-filtered : (low high : ℕ) (p : X → Bool) (xs : List X) → RiseBelow low (map number xs) high →
      RiseBelow low (map number (filter p xs)) high
  below-filtered low high p [] h = h
  below-filtered low high p (x ∷ xs) h = either (below-filtered (number x + 1) high p xs h.1) (p x) refl where
    either : RiseBelow (number x + 1) (map number (filter p xs)) high → (b : Bool) → p x ≡ b →
        RiseBelow low (map number (filter p (x ∷ xs))) high
    either rest true is = rw is (h.0, rest)
    either rest false is = rw is (RiseBelow-lower low (number x + 1) high (map number (filter p xs)) rest (omega (arith, h.0)))

  rising-from_below : (low high : ℕ) (xs : List X) → RiseBelow low (map number xs) high → AreRising number low xs
  rising-from_below low high [] h = tt
  rising-from_below low high (x ∷ xs) h = (h.0, rising-from_below (number x + 1) high xs h.1)

-- ---- of the table

abbrev number_of_session : Session → ℕ
number_of_session s = s.number

abbrev number_of_process : Process → ℕ
number_of_process p = p.number

module _ (P : Procs) (h : AreNumbered P) where
  pub sessions-rise : AreRising (λ (s : Session). s.number) 0 P.sessions
  sessions-rise = rising-from_below number_of_session 0 P.next_session P.sessions h.sessions

  pub processes-rise : AreRising (λ (p : Process). p.number) 0 P.processes
  processes-rise = rising-from_below number_of_process 0 P.next_process P.processes h.processes

  pub numbered-with_session : (u : ℕ) → AreNumbered (with_session u P)
  numbered-with_session u = record {
    sessions = below-pushed number_of_session P.next_session P.sessions (session P.next_session u) refl h.sessions;
    processes = h.processes;
  }

  pub numbered-without_session : (n : ℕ) → AreNumbered (without_session n P)
  numbered-without_session n = record {
    sessions = below-filtered number_of_session 0 P.next_session (λ s. not (is_session n s)) P.sessions h.sessions;
    processes = below-filtered number_of_process 0 P.next_process (λ p. not (is_of_session n p)) P.processes h.processes;
  }

  pub numbered-with_process : (n : ℕ) → AreNumbered (with_process n P)
  numbered-with_process n = record {
    sessions = h.sessions;
    processes = below-pushed number_of_process P.next_process P.processes (process P.next_process n) refl h.processes;
  }

  pub numbered-without_process : (n : ℕ) → AreNumbered (without_process n P)
  numbered-without_process n = record {
    sessions = h.sessions;
    processes = below-filtered number_of_process 0 P.next_process (λ p. not (is_process n p)) P.processes h.processes;
  }
