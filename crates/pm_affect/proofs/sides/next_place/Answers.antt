use Rattle.std.proofs.Common.{◌<◌, ◌≤◌, length, refl, arith}
use Rattle.std.proofs.lemmas.List.{length-map}
use Rattle.std.proofs.lemmas.Option.{slice_get_read}
use Rattle.pm_affect.specs.Lists.{subjects}
use Rattle.pm_affect.proofs.Edits.{subject-at}
use Rattle.pm_affect.proofs.Places.{place-within, place-above, place-below}
use Rattle.pm_affect.proofs.sides.next_place.Goals as goal

pub loop-i-preserved : goal.loop-i-preserved
loop-i-preserved c =
    let there = slice_get_read c.args.items.now (length c.args.items.now) _ c.index-items-i.result refl c.loop-i-test.true c.index-items-i.is in
    let lower : c.index-items-i.result.subject < c.args.subject = omega arith in
    place-above 0 c.args.subject _ c.index-items-i.result.subject (subjects c.args.items.now) c.requires.listed.rise
    (subject-at c.args.items.now _ c.index-items-i.result there) lower

pub returns-else-number : goal.returns-else-number
returns-else-number c =
    let there = slice_get_read c.args.items.now (length c.args.items.now) _ c.index-items-i.result refl c.loop-i-test.true c.index-items-i.is in
    let above : c.args.subject ≤ c.index-items-i.result.subject = omega arith in
    let before = place-below c.args.subject _ c.index-items-i.result.subject (subjects c.args.items.now)
    (subject-at c.args.items.now _ c.index-items-i.result there) above in
    omega (arith, before, c.loop-i.invariant)

pub returns-after-loop-i : goal.returns-after-loop-i
returns-after-loop-i c =
    let within = place-within c.args.subject (subjects c.args.items.now) in
    let same = length-map c.args.items.now (λ k. k.subject) in
    omega (arith, within, same, c.loop-i-test.false, c.loop-i.invariant)
