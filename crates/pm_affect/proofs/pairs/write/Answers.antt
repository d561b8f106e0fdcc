use Rattle.std.proofs.Common.{rules, ◌≡◌, ◌==◌, true, false, refl, arith}
use Rattle.pm_affect.proofs.Puts.{put-empty, put-some, put-order, length-out}
use Rattle.pm_affect.proofs.pairs.write.Goals as goal

pub insert-requires : goal.insert-requires
insert-requires c = rw (c.take_out.ensures, c.requires.place) (length-out c.args.element c.args.pairs.now)

pub returns-in_err-insert-clause-order : goal.returns-in_err-insert-clause-order
returns-in_err-insert-clause-order c =
    rw (c.in_err-insert.ensures.err, c.take_out.ensures, c.requires.place, put-empty c.args.element 0 c.args.pairs.now refl)
    (put-order c.args.element 0 0 c.args.pairs.now (omega arith) c.requires.order)

pub returns-in_ok-insert-clause-ok : goal.returns-in_ok-insert-clause-ok
returns-in_ok-insert-clause-ok c =
    let some : (c.args.rights == 0) ≡ false = search rules in
    rw (c.in_ok-insert.ensures.ok, c.take_out.ensures, c.requires.place) (put-some c.args.element c.args.rights c.args.pairs.now some)

pub returns-in_ok-insert-clause-order : goal.returns-in_ok-insert-clause-order
returns-in_ok-insert-clause-order c =
    let some : (c.args.rights == 0) ≡ false = search rules in
    rw (c.in_ok-insert.ensures.ok, c.take_out.ensures, c.requires.place, put-some c.args.element c.args.rights c.args.pairs.now some)
    (put-order c.args.element c.args.rights 0 c.args.pairs.now (omega arith) c.requires.order)

pub returns-else-not-is_empty-clause-ok : goal.returns-else-not-is_empty-clause-ok
returns-else-not-is_empty-clause-ok c =
    let none : (c.args.rights == 0) ≡ true = search rules in
    rw (c.take_out.ensures, c.requires.place) (put-empty c.args.element c.args.rights c.args.pairs.now none)

pub returns-else-not-is_empty-clause-order : goal.returns-else-not-is_empty-clause-order
returns-else-not-is_empty-clause-order c =
    let none : (c.args.rights == 0) ≡ true = search rules in
    rw (c.take_out.ensures, c.requires.place, put-empty c.args.element c.args.rights c.args.pairs.now none)
    (put-order c.args.element c.args.rights 0 c.args.pairs.now (omega arith) c.requires.order)
