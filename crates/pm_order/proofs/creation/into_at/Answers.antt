use Rattle.std.proofs.Common.{arith, length, Contains, get_or, subst, sym}
use Rattle.std.proofs.lemmas.List.Elements.{Contains-get_or}
use Rattle.std.proofs.lemmas.Bool.{ltb-true}
use Rattle.pm_order.proofs.creation.into_at.Goals as goal

pub element_at-requires : goal.element_at-requires
element_at-requires c =
    let first = c.in-Some.first.now in
    let found = c.in-Some.ensures.lookup in
    let there : Contains c.at.result.now (get_or c.at.result.now 0 first) = Contains-get_or c.at.result.now 0 first (ltb-true 0 (length c.at.result.now) (sym found.0)) in
    let at : Contains c.at.result.now first = subst (λ k. Contains c.at.result.now k) (sym found.1) there in
    let within = c.requires.within c.args.place first (subst (λ l. Contains l first) c.at.ensures at) in
    let many = c.requires.count in omega (arith, within, many)
