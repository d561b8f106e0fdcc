use Rattle.std.proofs.Common.{rules, ◌≡◌, false, true, get_or}
use Rattle.pm_order.proofs.Queued.{fewer, passed, rest-within, taken}
use Rattle.pm_order.proofs.turns.first_unmade.Goals as goal

pub returns-then-not-is_made-clause-some : goal.returns-then-not-is_made-clause-some
returns-then-not-is_made-clause-some c =
    let kept = c.loop-place.invariant in
    let un : get_or c.args.made.now c.in-Some.place false ≡ false = search rules in
    taken c.args.made.now c.args.places.now c.loop-place.places kept.0 c.in-Some.place c.pop.new.self c.in-Some.ensures.some kept.1 c.in-Some.ensures.least un

pub loop-place-smaller : goal.loop-place-smaller
loop-place-smaller c = fewer c.in-Some.place c.loop-place.places c.pop.new.self c.in-Some.ensures.some

pub loop-place-preserved : goal.loop-place-preserved
loop-place-preserved c =
    let kept = c.loop-place.invariant in
    let is : get_or c.args.made.now c.in-Some.place false ≡ true = search rules in (
      passed c.args.made.now c.args.places.now c.loop-place.places kept.0 c.in-Some.place c.pop.new.self c.in-Some.ensures.some is,
      rest-within c.args.made.now c.args.places.now c.loop-place.places kept.0 c.in-Some.place c.pop.new.self c.in-Some.ensures.some kept.1,
    )
