use Rattle.std.proofs.Common.{◌≡◌, ◌≤◌, ◌∙◌, ◌-◌, ap, sym, subst, arith, eq-eqb, length, replicate, false, []}
use Rattle.std.proofs.lemmas.Bool.{eqb-true}
use Rattle.std.proofs.lemmas.List.{length-map}
use Rattle.pm_policy.specs.Order.{ordered}
use Rattle.pm_order.specs.Ranked.{containers, containers_of, element_in, ranked, AreWithin}
use Rattle.pm_order.proofs.Ranks.{turns-same}
use Rattle.pm_order.proofs.Whole.{whole-acyclic}
use Rattle.pm_order.proofs.in_order.has_order.Goals as goal

pub count_turns-requires : goal.count_turns-requires
count_turns-requires c = subst (λ l. AreWithin l) (sym c.lists.ensures) c.requires

pub returns : goal.returns
returns c es pairs once known above_is =
    let above = containers es pairs in
    let lists : c.lists.result.now ≡ above = c.lists.ensures ∙ above_is in
    let size : length above ≡ length es = length-map es (containers_of es pairs) in
    let many : length c.lists-2.result.now ≡ length es = ap length (c.lists-2.ensures ∙ above_is) ∙ size in
    let none : 0 ≤ length es = omega arith in
    let whole_n : length es ≡ length es - 0 = omega arith in
    let turns = ordered pairs (length es) [] es in
    let found : c.in_ok-count.count ≡ length turns =
    c.in_ok-count.ensures ∙ ap (λ l. length (ranked l (length l) (replicate (length l) false))) lists
    ∙ ap (λ m. length (ranked above m (replicate m false))) (size ∙ whole_n)
    ∙ sym (length-map (ranked above (length es - 0) (replicate (length es - 0) false)) (element_in es))
    ∙ sym (ap length (turns-same pairs es once known 0 none)) ∙ ap (λ m. length (ordered pairs m [] es)) (sym whole_n) in
    let whole = whole-acyclic pairs es once known in (
      λ is. whole.0 (let e = eqb-true c.in_ok-count.count (length c.lists-2.result.now) is in omega (arith, e, found, many)),
      λ acyclic. eq-eqb c.in_ok-count.count (length c.lists-2.result.now) (let e = whole.1 acyclic in omega (arith, e, found, many)),
    )
