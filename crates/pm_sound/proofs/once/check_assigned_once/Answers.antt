use Rattle.std.proofs.Common.{◌≡◌, ◌∙◌, ◌++◌, sym, true}
use Rattle.std.proofs.lemmas.Result.{err_from_is_err_and}
use Rattle.pm_policy.specs.Sound.{AreOnceAssigned, opening_pairs}
use Rattle.pm_sound.proofs.Tied.{new-once, once-new}
use Rattle.pm_sound.proofs.Told.{broken, told}
use Rattle.pm_sound.proofs.once.check_assigned_once.Goals as goal

pub returns-in_err-need : goal.returns-in_err-need
returns-in_err-need c =
    let pairs = c.args.pairs.now in
    let p = err_from_is_err_and c.from_residual.result c.from_residual.ensures.1 in
    rw (p.1, p.2) (broken (c.are_new.result ≡ true) (AreOnceAssigned (opening_pairs ++ pairs)) c.in_err-need.field-0.0
    (λ h. c.are_new.ensures ∙ once-new pairs h) c.in_err-need.ensures)

pub returns : goal.returns
returns c =
    let pairs = c.args.pairs.now in
    told (AreOnceAssigned pairs) (AreOnceAssigned (opening_pairs ++ pairs)) c.check_assigned.result
    (λ once. new-once pairs (sym c.are_new.ensures ∙ c.in_ok-need.ensures) once, λ h. h.1.1) c.check_assigned.ensures
