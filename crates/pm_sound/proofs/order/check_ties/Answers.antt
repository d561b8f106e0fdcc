use Rattle.std.proofs.Common.{◌≡◌, ◌∙◌, ◌++◌, ap, sym, subst, length, true}
use Rattle.std.proofs.lemmas.List.{length-map}
use Rattle.std.proofs.lemmas.Result.{err_from_is_err_and}
use Rattle.pm_model.specs.Formed.{Each}
use Rattle.pm_order.specs.Ranked.{containers, containers_of, AreWithin}
use Rattle.pm_order.proofs.Placed.{containers-within}
use Rattle.pm_policy.specs.Sound.{opening_pairs, AreOnceCalled, FitAssigned, HasContainer}
use Rattle.pm_sound.specs.Groups.{AreTied}
use Rattle.pm_sound.proofs.Known.{known}
use Rattle.pm_sound.proofs.Told.{broken, told}
use Rattle.pm_sound.proofs.order.check_ties.Goals as goal

pub find_containers-requires : goal.find_containers-requires
find_containers-requires c = subst AreOnceCalled (sym c.requires.standing) c.requires.once

pub returns-in_err-containers : goal.returns-in_err-containers
returns-in_err-containers c =
    let es = c.args.elements.now in
    let pairs = opening_pairs ++ c.args.pairs.now in
    let p = err_from_is_err_and c.from_residual.result c.from_residual.ensures.1 in
    rw (p.1, p.2) (broken (Each (FitAssigned c.args.standing.now) pairs) (AreTied es pairs) c.in_err-containers.field-0.0
    (λ h. subst (λ l. Each (FitAssigned l) pairs) (sym c.requires.standing) h.kinds) c.in_err-containers.ensures.rules)

pub all_contained-requires : goal.all_contained-requires
all_contained-requires c =
    let es = c.args.elements.now in
    let pairs = opening_pairs ++ c.args.pairs.now in
    ap length (c.in_ok-containers.ensures.lists ∙ ap (λ l. containers l pairs) c.requires.standing) ∙ length-map es (containers_of es pairs)

pub returns-in_err-need : goal.returns-in_err-need
returns-in_err-need c =
    let es = c.args.elements.now in
    let pairs = opening_pairs ++ c.args.pairs.now in
    let lists = c.in_ok-containers.ensures.lists ∙ ap (λ l. containers l pairs) c.requires.standing in
    let p = err_from_is_err_and c.from_residual-in_err-need.result c.from_residual-in_err-need.ensures.1 in
    rw (p.1, p.2) (broken (c.all_contained.result ≡ true) (AreTied es pairs) c.in_err-need.field-0.0
    (λ h. (c.all_contained.ensures pairs lists).1 h.contained) c.in_err-need.ensures)

pub has_order-requires : goal.has_order-requires
has_order-requires c =
    let es = c.args.elements.now in
    let pairs = opening_pairs ++ c.args.pairs.now in
    let lists = c.in_ok-containers.ensures.lists ∙ ap (λ l. containers l pairs) c.requires.standing in
    let fit = subst (λ l. Each (FitAssigned l) pairs) c.requires.standing c.in_ok-containers.ensures.rules in
    subst AreWithin (sym lists) (containers-within es pairs (known es pairs fit))

pub returns : goal.returns
returns c =
    let es = c.args.elements.now in
    let pairs = opening_pairs ++ c.args.pairs.now in
    let lists = c.in_ok-containers.ensures.lists ∙ ap (λ l. containers l pairs) c.requires.standing in
    let fit = subst (λ l. Each (FitAssigned l) pairs) c.requires.standing c.in_ok-containers.ensures.rules in
    let contained : Each (HasContainer pairs) es = (c.all_contained.ensures pairs lists).0 c.in_ok-need.ensures in
    let acyclic = c.in_ok-has_order.ensures es pairs c.requires.once (known es pairs fit) lists in
    told (c.in_ok-has_order.field-0 ≡ true) (AreTied es pairs) c.need-2.result
    (λ h. record { kinds = fit; contained = contained; acyclic = acyclic.0 h }, λ h. acyclic.1 h.acyclic) c.need-2.ensures
