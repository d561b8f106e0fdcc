use Rattle.std.proofs.Common.{◌≡◌, ◌≤◌, ℕ, List, length, arith}
use Rattle.pm_model.specs.Grants.{grants_off}
use Rattle.pm_model.specs.declared.rights.Grant.{Grant}
use Rattle.pm_assoc.proofs.Removed.{length-grants_off}
use Rattle.pm_assoc.proofs.grantees.take_out.Goals as goal

-- no more are left than there were
fewer : (at : ℕ) (old new : List Grant) → new ≡ grants_off at old → length new ≤ length old
fewer at old new off = rw off (length-grants_off at old)

pub overflow_sub-result : goal.overflow_sub-result
overflow_sub-result c = let l = fewer c.args.at c.args.grants.now c.take_off.new.self c.take_off.ensures in omega (arith, l)

pub returns-clause-count : goal.returns-clause-count
returns-clause-count c = let l = fewer c.args.at c.args.grants.now c.take_off.new.self c.take_off.ensures in omega (arith, l)
