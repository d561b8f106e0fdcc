use Rattle.std.proofs.Common.{arith, ◌≡◌, ◌==◌, if◌then◌else◌, ℕ, length-take, ne_eqb}
use Rattle.pm_model.specs.History.{state_of}
use Rattle.pm_model.specs.Causes.{raised}
use Rattle.pm_run.proofs.Ending.{ends-read_fault, ends-done, ends-stop, if_err_of}
use Rattle.pm_run.proofs.run.answer_piece.Goals as goal

-- A read that gave something is no end of the input.
kept_ends : (n old new : ℕ) → new ≡ (if n == 0 then raised old else old) → (n ≡ 0 → ⊥) → new ≡ old
kept_ends n old new is some = rw (ne_eqb n 0 some) at is

pub returns-in_default-clause-err : goal.returns-in_default-clause-err
returns-in_default-clause-err g c =
    ends-read_fault _ _ _ _ _ _ _ _ _ c.args.session.now _ c.requires.some c.in_default.ensures.bytes c.in_default.ensures.cause.failed c.in_default.ensures.end

pub returns-then-count-eq0-clause-err : goal.returns-then-count-eq0-clause-err
returns-then-count-eq0-clause-err g c =
    let z = c.if-count-eq0.true in
    ends-done _ _ _ _ _ _ _ _ _ c.args.session.now _ c.requires.some (rw z at c.in-Ok.ensures.bytes.0)
    (c.in-Ok.ensures.bytes.1 z (let k = c.read.auto.piece in let s = c.requires.some in omega arith)) c.in-Ok.ensures.cause.kept (rw z at c.in-Ok.ensures.end)

pub returns-in_err-turn-clause-err : goal.returns-in_err-turn-clause-err
returns-in_err-turn-clause-err g c =
    if_err_of _ _ _ c.from_residual.ensures.1
    (ends-stop _ _ _ _ _ _ _ _ _ _ _ (state_of (g.M.Answerer.machine c.turn.new.machine)) c.args.session.now _ _ c.in_err-turn.field-0.0 c.in-Ok.ensures.bytes.0
    (let b = c.in-Ok.ensures.bound in let k = c.read.auto.piece in omega (arith, length-take {A = ℕ}))
    c.in-Ok.ensures.cause.kept (kept_ends _ _ _ c.in-Ok.ensures.end c.if-count-eq0.false)
    c.in_err-turn.ensures.fault c.in_err-turn.ensures.memory c.in_err-turn.ensures.cause)
