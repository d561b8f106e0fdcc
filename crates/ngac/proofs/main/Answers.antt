use Rattle.std.proofs.Common.{◌≡◌, ◌<◌, ◌≤◌, ℕ, Ok, Err}
use Rattle.std.specs.Prelude.{Result, String}
use Rattle.std.specs.declared.alloc.Global.{Global}
use Rattle.std.specs.declared.io.Error.{Error}
use Rattle.std.specs.declared.vec.IntoIter.{IntoIter}
use Rattle.pm_words.specs.Words.{AskServe, AskServeJournal, words_of}
use Rattle.pm_words.proofs.Values.{serve_written_out, serve_journal_written_out}
use Rattle.ngac.proofs.main.Goals as goal

-- a server that is asked for has as many workers as it may have
enough : (args : Result (IntoIter (String Global) Global) Error) (port workers : ℕ) → AskServe args port workers → (0 < workers) × (workers ≤ 32)
enough (Ok words) port workers asked = let is = (serve_written_out (words_of words) port workers).0 asked in (is.2, is.3)
enough (Err e) port workers asked = absurd asked

-- so has one with a journal
enough_kept : (args : Result (IntoIter (String Global) Global) Error) (port workers : ℕ) → AskServeJournal args port workers → (0 < workers) × (workers ≤ 32)
enough_kept (Ok words) port workers asked = let is = (serve_journal_written_out (words_of words) port workers asked.0).0 asked.1 in (is.2, is.3)
enough_kept (Err e) port workers asked = absurd asked

pub serve-status-requires-after_bounds : goal.serve-status-requires-after_bounds
serve-status-requires-after_bounds g c κs =
    enough c.args-args.result c.in-Serve.port c.in-Serve.workers
    ((c.top.ensures.serve c.in-Serve.port c.in-Serve.workers (λ no. let is = c.in-Serve.is in cc)).0 c.in-Serve.is)

pub serve_journal-status-requires-after_bounds : goal.serve_journal-status-requires-after_bounds
serve_journal-status-requires-after_bounds g c κs =
    enough_kept c.args-args.result c.in-ServeJournal.port c.in-ServeJournal.workers
    ((c.top.ensures.serve_journal c.in-ServeJournal.port c.in-ServeJournal.workers (λ no. let is = c.in-ServeJournal.is in cc)).0 c.in-ServeJournal.is)
