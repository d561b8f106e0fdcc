use Rattle.std.proofs.Common.{◌≡◌, ◌∙◌, sym, subst, Some, slice_get, arith}
use Rattle.std.proofs.lemmas.List.{length-map}
use Rattle.std.proofs.lemmas.Option.{slice_get_within}
use Rattle.pm_affect.specs.Lists.{subjects}
use Rattle.pm_affect.specs.Puts.{with_put}
use Rattle.pm_affect.proofs.Edits.{among-place, edited-nowhere, edited-there, on_ok-to}
use Rattle.pm_affect.proofs.sides.put_at.Goals as goal

pub put_in-requires-clause-place : goal.put_in-requires-clause-place
put_in-requires-clause-place c =
    let same = length-map c.args.items.now.items (λ k. k.subject) in
    let at = among-place 0 c.args.subject (subjects c.args.items.now.items) c.requires.listed.rise (sym (rw c.deref.ensures.value at c.if-has_at.ensures)) in
    let within = slice_get_within (subjects c.args.items.now.items) _ c.args.subject at in
    omega (arith, same, within, c.requires.place)

pub returns-then-has_at-clause-ok : goal.returns-then-has_at-clause-ok
returns-then-has_at-clause-ok c =
    let at = among-place 0 c.args.subject (subjects c.args.items.now.items) c.requires.listed.rise (sym (rw c.deref.ensures.value at c.if-has_at.ensures)) in
    on_ok-to c.put_in.result _ _
    (λ h. h ∙ edited-there c.args.subject (with_put c.args.element c.args.rights) 0 c.args.i c.args.items.now.items c.requires.listed.rise
    (subst (λ i. slice_get (subjects c.args.items.now.items) i ≡ Some c.args.subject) (sym c.requires.place) at)) c.put_in.ensures.ok

pub returns-clause-ok : goal.returns-clause-ok
returns-clause-ok c = edited-nowhere c.args.subject (with_put c.args.element c.args.rights) c.args.items.now.items (sym (rw c.deref.ensures.value at c.if-has_at.ensures))
