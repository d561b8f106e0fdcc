use Rattle.std.proofs.Common.{◌∙◌, ◌++◌, ap, sym, None, get_or, map, take}
use Rattle.std.proofs.lemmas.List.{append-nil, get_or_default}
use Rattle.std.proofs.lemmas.List.Elements.{Contains-get_or}
use Rattle.pm_by_name.specs.Keyed.{association_in}
use Rattle.pm_policy.specs.Requests.{asked, associate}
use Rattle.pm_print.specs.Requested.{request_text}
use Rattle.pm_making.specs.Lines.{lines_of}
use Rattle.pm_making.proofs.Written.{front_then, lines-step}
use Rattle.pm_making.proofs.writing.write_associations.Goals as goal

pub loop-place-init : goal.loop-place-init
loop-place-init c = sym (append-nil c.args.out.now.items)

pub association_at-requires : goal.association_at-requires
association_at-requires c =
    c.requires (get_or c.args.places.now c.loop-place.place-index 0) (Contains-get_or c.args.places.now c.loop-place.place-index 0 c.loop-place-test.true)

pub returns-in_err-write-clause-front : goal.returns-in_err-write-clause-front
returns-in_err-write-clause-front c =
    let all = c.args.associations.now in
    front_then c.args.out.now.items (lines_of (map (λ k. associate (association_in all k)) (take c.loop-place.place-index c.args.places.now)))
    c.loop-place.out.items c.write.new.out.items c.loop-place.invariant c.write.ensures.front

pub loop-place-preserved : goal.loop-place-preserved
loop-place-preserved c =
    let all = c.args.associations.now in
    let places = c.args.places.now in
    let i = c.loop-place.place-index in
    let k = get_or places i 0 in
    lines-step (λ k. associate (association_in all k)) places i k c.args.out.now.items c.loop-place.out.items c.write.new.out.items c.loop-place-test.true
    (get_or_default places i 0 k c.loop-place-test.true) c.loop-place.invariant
    (c.in_ok-write.ensures.ok ∙ ap (λ a. c.loop-place.out.items ++ request_text None (asked (associate a))) c.association_at.ensures)
