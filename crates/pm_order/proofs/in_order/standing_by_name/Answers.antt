use Rattle.std.proofs.Common.{◌≡◌, ◌∙◌, ap, sym, Vec, Global}
use Rattle.std.proofs.lemmas.Result.{IfOk-weaker}
use Rattle.pm_policy.specs.Order.{sorted, stands_before}
use Rattle.pm_policy.specs.Policy.{standing}
use Rattle.pm_policy.specs.declared.policy.DocElement.{DocElement}
use Rattle.pm_by_name.proofs.Ordered.{rising_sorted}
use Rattle.pm_order.proofs.in_order.standing_by_name.Goals as goal

pub returns-then-are_elements_in_order : goal.returns-then-are_elements_in_order
returns-then-are_elements_in_order c =
    let es = c.args.elements.now in
    IfOk-weaker c.standing.result (λ (v : Vec DocElement Global). v.items ≡ standing es) (λ (v : Vec DocElement Global). v.items ≡ standing (sorted stands_before es))
    (λ v is. is ∙ ap standing (sym (rising_sorted stands_before es (c.are_elements_in_order.ensures.0 c.if-are_elements_in_order.true))))
    c.standing.ensures
