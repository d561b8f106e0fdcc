use Rattle.std.proofs.Common.{◌≡◌, ◌∙◌, ◌-◌, ◌++◌, ap, sym, subst, length, replicate, true, false, Vec, Global}
use Rattle.std.proofs.lemmas.Result.{IfOk-weaker}
use Rattle.pm_order.specs.Ranked.{ranked, AreChildren}
use Rattle.pm_order.proofs.turns.turns.Goals as goal

pub ranked-requires-clause-children : goal.ranked-requires-clause-children
ranked-requires-clause-children c = subst (λ l. AreChildren l c.args.containers.now) (sym c.as_slice.ensures.value) c.in_ok-children.ensures.children

pub returns : goal.returns
returns c =
    let above = c.args.containers.now in
    let n = length above - c.args.made in
    IfOk-weaker c.ranked.result
    (λ (v : Vec _ Global). v.items ≡ ranked above n c.in_ok-marks.marks.items)
    (λ (v : Vec _ Global). v.items ≡ ranked above n (replicate c.args.made true ++ replicate n false))
    (λ v is. is ∙ ap (λ m. ranked above n m) c.in_ok-marks.ensures)
    c.ranked.ensures
