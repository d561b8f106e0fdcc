use Rattle.std.proofs.Common.{◌≡◌, ◌≤◌, ◌∙◌, length, refl, sym, subst, Some, slice_get, arith}
use Rattle.std.proofs.lemmas.Bool.{le-ltb}
use Rattle.std.proofs.lemmas.List.{length-map}
use Rattle.std.proofs.lemmas.Option.{slice_get_read}
use Rattle.pm_affect.specs.Lists.{subjects}
use Rattle.pm_affect.proofs.Edits.{subject-at, place-among, place-none}
use Rattle.pm_affect.proofs.sides.has_at.Goals as goal

pub returns-then-i-items : goal.returns-then-i-items
returns-then-i-items c =
    let there = slice_get_read c.args.items.now (length c.args.items.now) _ c.index-items-i.result refl c.if-i-items.true c.index-items-i.is in
    let at = subject-at c.args.items.now _ c.index-items-i.result there in
    rw (c.eq.ensures, c.subject.ensures)
    (place-among 0 c.args.subject c.index-items-i.result.subject (subjects c.args.items.now) c.requires.listed.rise
    (subst (λ i. slice_get (subjects c.args.items.now) i ≡ Some c.index-items-i.result.subject) c.requires.place at))

pub returns-else-i-items : goal.returns-else-i-items
returns-else-i-items c =
    let same = length-map c.args.items.now (λ k. k.subject) in
    let past : length c.args.items.now ≤ c.args.i = c.if-i-items.false in
    le-ltb c.args.i (length c.args.items.now) past
    ∙ sym (place-none 0 c.args.subject (subjects c.args.items.now) c.requires.listed.rise (omega (arith, same, past, c.requires.place)))
