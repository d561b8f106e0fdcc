use Rattle.std.proofs.Common.{◌<◌, ◌≤◌, length, refl, arith}
use Rattle.std.proofs.lemmas.List.{length-map}
use Rattle.std.proofs.lemmas.Option.{slice_get_read}
use Rattle.pm_affect.specs.Lists.{subjects}
use Rattle.pm_affect.proofs.Edits.{subject-at}
use Rattle.pm_affect.proofs.Places.{place-within, place-above, place-below}
use Rattle.pm_affect.proofs.sides.place.Goals as goal

pub loop-low-init : goal.loop-low-init
loop-low-init c =
    let within = place-within c.args.subject (subjects c.args.items.now) in
    let same = length-map c.args.items.now (λ k. k.subject) in record {
      above = omega arith;
      below = omega (arith, within, same);
      within = omega arith;
    }

pub loop-low-preserved-then-number : goal.loop-low-preserved-then-number
loop-low-preserved-then-number c =
    let there = slice_get_read c.args.items.now (length c.args.items.now) _ c.index-items-middle.result refl
    (omega (arith, c.loop-low-test.true, c.loop-low.invariant.within)) c.index-items-middle.is in
    let lower : c.index-items-middle.result.subject < c.args.subject = omega arith in
    let behind = place-above 0 c.args.subject _ c.index-items-middle.result.subject (subjects c.args.items.now) c.requires.rise
    (subject-at c.args.items.now _ c.index-items-middle.result there) lower in record {
      above = behind;
      below = c.loop-low.invariant.below;
      within = c.loop-low.invariant.within;
    }

pub loop-low-preserved : goal.loop-low-preserved
loop-low-preserved c =
    let there = slice_get_read c.args.items.now (length c.args.items.now) _ c.index-items-middle.result refl
    (omega (arith, c.loop-low-test.true, c.loop-low.invariant.within)) c.index-items-middle.is in
    let above : c.args.subject ≤ c.index-items-middle.result.subject = omega arith in
    let before = place-below c.args.subject _ c.index-items-middle.result.subject (subjects c.args.items.now)
    (subject-at c.args.items.now _ c.index-items-middle.result there) above in record {
      above = c.loop-low.invariant.above;
      below = before;
      within = omega (arith, c.loop-low.invariant.within);
    }
