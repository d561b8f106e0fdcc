use Rattle.std.proofs.Common.{arith}
use Rattle.std.proofs.lemmas.Result.{err_from_is_err_and}
use Rattle.pm_sound.specs.Groups.{AreDefined, IsFree}
use Rattle.pm_sound.proofs.Defining.{next, next-free, none-yet}
use Rattle.pm_sound.proofs.Told.{broken}
use Rattle.pm_sound.proofs.rights.defined.Goals as goal

pub loop-right-init : goal.loop-right-init
loop-right-init c = none-yet c.in_ok-names.names c.in_ok-names.ensures

pub returns-in_err-define-clause-rules : goal.returns-in_err-define-clause-rules
returns-in_err-define-clause-rules c =
    let names = c.loop-right.names in
    let rights = c.args.rights.now in
    let right = c.right-item.result in
    let p = err_from_is_err_and c.from_residual-in_err-define.result c.from_residual-in_err-define.ensures.1 in
    rw (p.1, p.2) (broken (IsFree names right) (AreDefined rights) c.in_err-define.field-0.0
    (next-free names rights c.loop-right.right-index right (omega arith) c.right-item.is c.loop-right.invariant) c.in_err-define.ensures.rules)

pub loop-right-preserved : goal.loop-right-preserved
loop-right-preserved c =
    next c.loop-right.names c.args.rights.now c.loop-right.right-index c.right-item.result (omega arith) c.right-item.is c.loop-right.invariant
    c.define.new.names c.in_ok-define.ensures.ok c.in_ok-define.ensures.rules
