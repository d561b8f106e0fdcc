use Rattle.std.proofs.Common.{arith}
use Rattle.pm_session.proofs.Pushing.{IsWaiting-tail, HasPushed-short, HasPushed-long}
use Rattle.pm_session.proofs.waiting.push_part.Goals as goal

pub overflow_add-tail : goal.overflow_add-tail
overflow_add-tail c =
    let l = IsWaiting-tail _ _ c.requires.kept in
    let r = c.requires.room in
    omega arith

pub blank-requires-clause-open : goal.blank-requires-clause-open
blank-requires-clause-open c = omega (arith, IsWaiting-tail _ _ c.requires.kept)

pub returns-then-tail-part-le-LONGEST-clause-pushed :
    goal.returns-then-tail-part-le-LONGEST-clause-pushed
returns-then-tail-part-le-LONGEST-clause-pushed c =
    rw c.append.ensures.items (HasPushed-short _ _ _ c.requires.kept c.requires.plain c.if-tail-part-le-LONGEST.true)

pub returns-clause-pushed : goal.returns-clause-pushed
returns-clause-pushed c =
    HasPushed-long _ _ _ _ c.requires.kept c.requires.plain c.if-tail-part-le-LONGEST.false c.blank.ensures.items
