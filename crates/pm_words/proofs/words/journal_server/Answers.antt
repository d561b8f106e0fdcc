use Rattle.std.proofs.Common.{[], ◌∷◌, codes, refl}
use Rattle.clap.specs.Words.{found_of}
use Rattle.pm_words.proofs.Values.{fails_at, fails_text, file, other_by, port, said_by, workers}
use Rattle.pm_words.proofs.words.journal_server.Goals as goal

pub returns-in_err-port : goal.returns-in_err-port
returns-in_err-port c words tells =
    let found = found_of c.args.values.now in
    rw c.from_residual.ensures (other_by words (codes "serve-journal") found tells
    (λ ns ts read given. fails_at found [] port (workers ∷ []) ns c.in_err-port.ensures read))

pub returns-in_err-workers : goal.returns-in_err-workers
returns-in_err-workers c words tells =
    let found = found_of c.args.values.now in
    rw c.from_residual-in_err-workers.ensures (other_by words (codes "serve-journal") found tells
    (λ ns ts read given. fails_at found (port ∷ []) workers [] ns c.in_err-workers.ensures read))

pub returns-in_err-_file : goal.returns-in_err-_file
returns-in_err-_file c words tells =
    let found = found_of c.args.values.now in
    rw c.from_residual-in_err-_file.ensures (other_by words (codes "serve-journal") found tells
    (λ ns ts read given. fails_text found file [] ts c.in_err-_file.ensures given))

pub returns : goal.returns
returns c words tells =
    let is_port = (c.in_ok-port.ensures c.in_ok-port.port).0 refl in
    let are_workers = (c.in_ok-workers.ensures c.in_ok-workers.workers).0 refl in
    let is_file = (c.in_ok-_file.ensures c.in_ok-_file._file.now).0 refl in (
      c.in_ok-_file._file.now,
      said_by words (codes "serve-journal") (found_of c.args.values.now) tells
          (c.in_ok-port.port ∷ c.in_ok-workers.workers ∷ []) (c.in_ok-_file._file.now ∷ []) (is_port, (are_workers, tt)) (is_file, tt),
    )
