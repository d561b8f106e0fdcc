-- Sessions and processes. Source: the report's sessions and processes, of which each process acts for one user; their
-- numbers and limits are the project's own.
use Rattle.std.specs.Prelude.{ℕ, Bool, not, ◌==◌, ◌+◌, nat_le, List, [], ◌∷◌, ◌++◌, length, map, filter, Option, option_map, option_and_then, find}
use Rattle.std.specs.List.{list_any}
use Rattle.pm_model.specs.declared.sessions.Session.{Session}
use Rattle.pm_model.specs.declared.sessions.Process.{Process}
use Rattle.pm_model.specs.declared.replies.Refusal.{Refusal}
use Rattle.pm_model.specs.declared.replies.Refusal.TheVariants.{UnknownProcess, UnknownSession, Builtin, Full}
use Rattle.pm_model.specs.declared.replies.Table.TheVariants as table

abbrev pub max_sessions : ℕ
max_sessions = 4096

abbrev pub max_processes : ℕ
max_processes = 16384

-- the live sessions and processes by rising number, and the numbers that the next ones get
pub record Procs : Type 0 where
  pub sessions : List Session
  pub processes : List Process
  pub next_session : ℕ
  pub next_process : ℕ

abbrev pub session : ℕ → ℕ → Session
session n u = record { number = n; user = u }

abbrev pub process : ℕ → ℕ → Process
process n s = record { number = n; session = s }

abbrev pub is_session : ℕ → Session → Bool
is_session n s = s.number == n

abbrev pub is_session_of : ℕ → Session → Bool
is_session_of u s = s.user == u

abbrev pub is_process : ℕ → Process → Bool
is_process n p = p.number == n

abbrev pub is_of_session : ℕ → Process → Bool
is_of_session n p = p.session == n

-- the live session of a number
abbrev pub session_at : Procs → ℕ → Option Session
session_at P n = find (is_session n) P.sessions

-- the live process of a number
abbrev pub process_at : Procs → ℕ → Option Process
process_at P n = find (is_process n) P.processes

abbrev pub user_of_session : Procs → ℕ → Option ℕ
user_of_session P n = option_map (λ (s : Session). s.user) (session_at P n)

-- the user for whom the process of a number acts: that of its session
abbrev pub user_of : Procs → ℕ → Option ℕ
user_of P n = option_and_then (λ (p : Process). user_of_session P p.session) (process_at P n)

-- the numbers of the processes of a session, by rising number
abbrev pub processes_of : Procs → ℕ → List ℕ
processes_of P n = map (λ (p : Process). p.number) (filter (is_of_session n) P.processes)

-- at the start: session 0 of this user, and process 0 of the session
abbrev pub opening_procs : ℕ → Procs
opening_procs u = record { sessions = session 0 u ∷ []; processes = process 0 0 ∷ []; next_session = 1; next_process = 1 }

-- ---- changes, and their preconditions in order

abbrev pub open_checks : Procs → List (Bool × Refusal)
open_checks P = (nat_le max_sessions (length P.sessions), Full table.Sessions) ∷ []

-- the session and the process of the opening are numbered 0
abbrev pub close_checks : Procs → ℕ → List (Bool × Refusal)
close_checks P n = (n == 0, Builtin) ∷ (not (list_any (is_session n) P.sessions), UnknownSession) ∷ []

abbrev pub start_checks : Procs → ℕ → List (Bool × Refusal)
start_checks P n =
    (not (list_any (is_session n) P.sessions), UnknownSession)
    ∷ (nat_le max_processes (length P.processes), Full table.Processes) ∷ []

abbrev pub end_checks : Procs → ℕ → List (Bool × Refusal)
end_checks P n = (n == 0, Builtin) ∷ (not (list_any (is_process n) P.processes), UnknownProcess) ∷ []

abbrev pub with_session : ℕ → Procs → Procs
with_session u P = record P { sessions = P.sessions ++ session P.next_session u ∷ []; next_session = P.next_session + 1 }

-- the session's processes go with it
abbrev pub without_session : ℕ → Procs → Procs
without_session n P =
    record P { sessions = filter (λ s. not (is_session n s)) P.sessions; processes = filter (λ p. not (is_of_session n p)) P.processes }

abbrev pub with_process : ℕ → Procs → Procs
with_process n P = record P { processes = P.processes ++ process P.next_process n ∷ []; next_process = P.next_process + 1 }

abbrev pub without_process : ℕ → Procs → Procs
without_process n P = record P { processes = filter (λ p. not (is_process n p)) P.processes }
