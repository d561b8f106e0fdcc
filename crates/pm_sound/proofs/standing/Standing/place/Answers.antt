use Rattle.std.proofs.Common.{◌∙◌, ap, sym, arith, bytes_eq}
use Rattle.std.specs.Map.{keys_of}
use Rattle.std.proofs.lemmas.Iterator.Adapters.{position_from-zero}
use Rattle.pm_policy.specs.Policy.{called}
use Rattle.pm_order.specs.Ranked.{place}
use Rattle.pm_sound.proofs.Found.{found_kind, found_none, found_place}
use Rattle.pm_sound.proofs.standing.Standing.place.Goals as goal

pub returns-in-Some-clause-kind : goal.returns-in-Some-clause-kind
returns-in-Some-clause-kind c =
    let name = c.args.name.now in
    sym (ap (λ es. called es name) (sym c.self.view_is) ∙ found_kind name c.self.inside.kinds.entries c.in-Some.kind.now (sym c.in-Some.ensures.value))

pub returns-in-Some-clause-place : goal.returns-in-Some-clause-place
returns-in-Some-clause-place c =
    let name = c.args.name.now in
    let there = found_place name 0 c.self.inside.kinds.entries c.in-Some.place (sym (position_from-zero (bytes_eq name) (keys_of c.self.inside.kinds.entries)) ∙ sym c.in-Some.ensures.index) in
    let same = ap (λ es. place es name) c.self.view_is in omega (arith, there, same)

pub returns-in-None-clause-kind : goal.returns-in-None-clause-kind
returns-in-None-clause-kind c =
    let name = c.args.name.now in
    sym (ap (λ es. called es name) (sym c.self.view_is) ∙ found_none name c.self.inside.kinds.entries (sym c.in-None.ensures.value))
