use Rattle.std.proofs.Common.{◌∙◌, ap, [], ◌∷◌, ◌++◌}
use Rattle.std.proofs.lemmas.List.{replicate-append-replicate}
use Rattle.pm_order.proofs.places.empty_lists.Goals as goal

pub loop-preserved : goal.loop-preserved
loop-preserved c =
    c.in_ok-push.ensures.items ∙ ap (λ x. c.loop.lists.items ++ x ∷ []) c.new.ensures ∙ ap (λ l. l ++ [] ∷ []) c.loop.invariant
    ∙ replicate-append-replicate c.loop.counter 1 []
