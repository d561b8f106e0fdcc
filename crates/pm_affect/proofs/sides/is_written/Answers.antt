use Rattle.std.proofs.Common.{◌≡◌, length, refl, sym, ◌∙◌, subst, arith}
use Rattle.std.proofs.lemmas.List.{length-map}
use Rattle.std.proofs.lemmas.Option.{slice_get_read, slice_get_within}
use Rattle.pm_affect.specs.Lists.{pairs_of_some, subjects, was_of_some}
use Rattle.pm_affect.proofs.Edits.{among-place, some-there, subject-at, subject-there, was-there}
use Rattle.pm_affect.proofs.sides.is_written.Goals as goal

pub bounds-items-i : goal.bounds-items-i
bounds-items-i c =
    let same = length-map c.args.items.now (λ k. k.subject) in
    let at = among-place 0 c.args.subject (subjects c.args.items.now) c.requires.rise (sym c.if-has_at.ensures) in
    let within = slice_get_within (subjects c.args.items.now) _ c.args.subject at in
    omega (arith, same, within, c.place-i.ensures.value)

pub returns-then-has_at : goal.returns-then-has_at
returns-then-has_at c = λ no.
    let same = length-map c.args.items.now (λ k. k.subject) in
    let at = among-place 0 c.args.subject (subjects c.args.items.now) c.requires.rise (sym c.if-has_at.ensures) in
    let within = slice_get_within (subjects c.args.items.now) _ c.args.subject at in
    let there = slice_get_read c.args.items.now (length c.args.items.now) _ c.index-items-i.result refl
    (omega (arith, same, within, c.place-i.ensures.value)) c.index-items-i.is in
    let of : c.index-items-i.result.subject ≡ c.args.subject =
    subject-there (subjects c.args.items.now) _ _ c.place-i.ensures.value (subject-at c.args.items.now _ c.index-items-i.result there) at in
    subst (λ s. was_of_some s c.args.items.now ≡ pairs_of_some s c.args.items.now) of
    (was-there 0 _ c.args.items.now c.index-items-i.result c.requires.rise there ∙ c.is_written.ensures no
    ∙ sym (some-there 0 _ c.args.items.now c.index-items-i.result c.requires.rise there))
