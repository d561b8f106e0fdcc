use Rattle.std.proofs.Common.{rules, ◌≡◌, ◌∙◌, length, true, sym, subst, vec_len}
use Rattle.std.specs.List.{list_all}
use Rattle.pm_order.proofs.Due.{all-due}
use Rattle.pm_order.proofs.walks.are_soon_made.Goals as goal

pub returns-then-all_marked : goal.returns-then-all_marked
returns-then-all_marked c told =
    let above = c.args.containers.now in
    let made = c.mark_free.new.made in
    let many : vec_len made ≡ length above = c.mark_free.ensures.count ∙ c.loop.invariant.0 in
    let len : vec_len made ≡ length made.items = search rules in
    let marked : list_all (λ mark. mark) made.items ≡ true =
    subst (λ m. list_all (λ mark. mark) m ≡ true) c.as_slice.ensures.value (sym c.all_marked.ensures ∙ c.if-all_marked.true) in
    all-due above made.items (sym len ∙ many) (c.mark_free.ensures.due c.loop.invariant.1) marked
