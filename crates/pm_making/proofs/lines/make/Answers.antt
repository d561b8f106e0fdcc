use Rattle.std.proofs.Common.{◌≡◌, ◌∙◌, ap, sym, subst, map}
use Rattle.std.proofs.lemmas.Result.{IfOk-weaker}
use Rattle.pm_by_name.proofs.Ordered.{rising_sorted}
use Rattle.pm_order.specs.Ranked.{turn}
use Rattle.pm_order.specs.declared.in_order.Making.{Making}
use Rattle.pm_policy.specs.Order.{leads_before, order, sorted}
use Rattle.pm_policy.specs.Policy.{standing}
use Rattle.pm_policy.specs.Requests.{others}
use Rattle.pm_policy.specs.Sound.{AreOnceAssigned}
use Rattle.pm_policy.specs.Waiting.{AreKnown}
use Rattle.pm_making.proofs.Known.{sorted_once, sound-known}
use Rattle.pm_making.proofs.lines.make.Goals as goal

pub order-requires : goal.order-requires
order-requires c =
    let pairs = c.args.pairs.now in
    let same : sorted leads_before pairs ≡ pairs = rising_sorted leads_before pairs (c.are_assignments_in_order.ensures.0 c.if-are_assignments_in_order.true) in
    record {
      once = c.requires.once;
      known = subst (λ ps. AreKnown ps (standing c.args.elements.now)) same (sound-known c.args.elements.now pairs c.requires);
      assigned = c.requires.assigned_once.1.1;
    }

pub returns-then-are_assignments_in_order-clause-turns : goal.returns-then-are_assignments_in_order-clause-turns
returns-then-are_assignments_in_order-clause-turns c =
    let pairs = c.args.pairs.now in
    let es = c.args.elements.now in
    let same : sorted leads_before pairs ≡ pairs = rising_sorted leads_before pairs (c.are_assignments_in_order.ensures.0 c.if-are_assignments_in_order.true) in
    IfOk-weaker c.order.result (λ (m : Making). m.turns.items ≡ map (turn pairs) (order pairs es))
    (λ (m : Making). m.turns.items ≡ map (turn (sorted leads_before pairs)) (order (sorted leads_before pairs) es))
    (λ m is. is ∙ ap (λ ps. map (turn ps) (order ps es)) (sym same)) c.order.ensures.turns

pub returns-then-are_assignments_in_order-clause-others : goal.returns-then-are_assignments_in_order-clause-others
returns-then-are_assignments_in_order-clause-others c =
    let pairs = c.args.pairs.now in
    let es = c.args.elements.now in
    let same : sorted leads_before pairs ≡ pairs = rising_sorted leads_before pairs (c.are_assignments_in_order.ensures.0 c.if-are_assignments_in_order.true) in
    IfOk-weaker c.order.result (λ (m : Making). m.others.items ≡ others es pairs) (λ (m : Making). m.others.items ≡ others es (sorted leads_before pairs))
    (λ m is. is ∙ ap (λ ps. others es ps) (sym same)) c.order.ensures.others

pub assignments_by_name-requires : goal.assignments_by_name-requires
assignments_by_name-requires c = c.requires.assigned_once.1.1

pub order-requires-2 : goal.order-requires-2
order-requires-2 c =
    let pairs = c.args.pairs.now in
    let same : c.as_slice.result.now ≡ sorted leads_before pairs = c.as_slice.ensures.value ∙ c.in_ok-by_name.ensures in
    record {
      once = c.requires.once;
      known = subst (λ ps. AreKnown ps (standing c.args.elements.now)) (sym same) (sound-known c.args.elements.now pairs c.requires);
      assigned = subst (λ ps. AreOnceAssigned ps) (sym same) (sorted_once pairs c.requires.assigned_once.1.1);
    }

pub returns-clause-turns : goal.returns-clause-turns
returns-clause-turns c =
    let pairs = c.args.pairs.now in
    let es = c.args.elements.now in
    let same : c.as_slice.result.now ≡ sorted leads_before pairs = c.as_slice.ensures.value ∙ c.in_ok-by_name.ensures in
    IfOk-weaker c.order-2.result (λ (m : Making). m.turns.items ≡ map (turn c.as_slice.result.now) (order c.as_slice.result.now es))
    (λ (m : Making). m.turns.items ≡ map (turn (sorted leads_before pairs)) (order (sorted leads_before pairs) es))
    (λ m is. is ∙ ap (λ ps. map (turn ps) (order ps es)) same) c.order-2.ensures.turns

pub returns-clause-others : goal.returns-clause-others
returns-clause-others c =
    let pairs = c.args.pairs.now in
    let es = c.args.elements.now in
    let same : c.as_slice.result.now ≡ sorted leads_before pairs = c.as_slice.ensures.value ∙ c.in_ok-by_name.ensures in
    IfOk-weaker c.order-2.result (λ (m : Making). m.others.items ≡ others es c.as_slice.result.now) (λ (m : Making). m.others.items ≡ others es (sorted leads_before pairs))
    (λ m is. is ∙ ap (λ ps. others es ps) same) c.order-2.ensures.others
