use Rattle.std.proofs.Common.{◌≡◌, sym, subst, true}
use Rattle.std.proofs.lemmas.Result.{err_from_is_err_and}
use Rattle.pm_policy.specs.Sound.{AreSound, IsSound}
use Rattle.pm_sound.specs.Groups.{AreDefined, AreRuled}
use Rattle.pm_sound.proofs.Ruled.{sound, sound-defined, sound-few, sound-ruled}
use Rattle.pm_sound.proofs.Told.{broken, told}
use Rattle.pm_sound.proofs.sound.check_sound.Goals as goal

pub returns-in_err-need : goal.returns-in_err-need
returns-in_err-need c =
    let D = c.args.policy.now in
    let p = err_from_is_err_and c.from_residual.result c.from_residual.ensures.1 in
    rw (p.1, p.2) (broken (c.are_few.result ≡ true) (IsSound D) c.in_err-need.field-0.0 (λ s. c.are_few.ensures.1 (sound-few D s)) c.in_err-need.ensures)

pub returns-in_err-standing : goal.returns-in_err-standing
returns-in_err-standing c =
    let D = c.args.policy.now in
    let p = err_from_is_err_and c.from_residual-in_err-standing.result c.from_residual-in_err-standing.ensures.1 in
    rw (p.1, p.2) (broken (AreSound D.elements D.assignments) (IsSound D) c.in_err-standing.field-0.0 (λ s. s.elements) c.in_err-standing.ensures.rules)

pub returns-in_err-rights : goal.returns-in_err-rights
returns-in_err-rights c =
    let D = c.args.policy.now in
    let p = err_from_is_err_and c.from_residual-in_err-rights.result c.from_residual-in_err-rights.ensures.1 in
    rw (p.1, p.2) (broken (AreDefined c.as_slice.result.now) (IsSound D) c.in_err-rights.field-0.0
    (λ s. subst AreDefined (sym c.as_slice.ensures) (sound-defined D s)) c.in_err-rights.ensures.rules)

pub returns : goal.returns
returns c =
    let D = c.args.policy.now in
    let few = c.are_few.ensures.0 c.in_ok-need.ensures in
    let defined = subst AreDefined c.as_slice.ensures c.in_ok-rights.ensures.rules in
    told (AreRuled D) (IsSound D) c.check_rules.result (λ ruled. sound D few c.in_ok-standing.ensures.rules defined ruled, sound-ruled D) c.check_rules.ensures
