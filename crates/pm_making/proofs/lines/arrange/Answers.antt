use Rattle.std.proofs.Common.{◌≡◌, ◌<◌, ◌∙◌, ℕ, ap, sym, subst, length, map, Contains}
use Rattle.pm_by_name.specs.Keyed.{association_in}
use Rattle.pm_policy.specs.Order.{leads_before, order, sorted}
use Rattle.pm_policy.specs.Requests.{by_name, joins_before, others}
use Rattle.pm_policy.specs.Sound.{AreOnce, AreSound, has_ends}
use Rattle.pm_order.specs.Ranked.{turn}
use Rattle.pm_making.proofs.lines.arrange.Goals as goal

pub make-requires : goal.make-requires
make-requires c =
    let D = c.args.policy.now in
    subst (λ es. AreSound es c.as_slice-pairs.result.now) (sym c.as_slice.ensures)
    (subst (λ ps. AreSound D.elements ps) (sym c.as_slice-pairs.ensures) c.requires.elements)

pub associations_by_name-requires : goal.associations_by_name-requires
associations_by_name-requires c = subst (λ l. AreOnce has_ends l) (sym c.as_slice-2.ensures) c.requires.associated_once

pub returns : goal.returns
returns c =
    let D = c.args.policy.now in
    let pairs = ap (λ l. sorted leads_before l) c.as_slice-pairs.ensures in
    record {
      turns = c.in_ok-making.ensures.turns ∙ ap (λ ps. map (turn ps) (order ps c.as_slice.result.now)) pairs
          ∙ ap (λ es. map (turn (by_name D)) (order (by_name D) es)) c.as_slice.ensures;
      others = c.in_ok-making.ensures.others ∙ ap (λ ps. others c.as_slice.result.now ps) pairs ∙ ap (λ es. others es (by_name D)) c.as_slice.ensures;
      associations = subst (λ all. map (association_in all) c.in_ok-associations.associations.items ≡ sorted joins_before all) c.as_slice-2.ensures
          c.in_ok-associations.ensures.order;
      places = subst (λ all. (k : ℕ) → Contains c.in_ok-associations.associations.items k → k < length all) c.as_slice-2.ensures
          c.in_ok-associations.ensures.places;
    }
