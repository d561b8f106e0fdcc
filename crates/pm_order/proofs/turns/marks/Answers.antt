use Rattle.std.proofs.Common.{◌∙◌, ap, true, false, [], ◌∷◌, ◌++◌, replicate, append_assoc}
use Rattle.std.proofs.lemmas.List.{replicate-append-replicate}
use Rattle.pm_order.proofs.turns.marks.Goals as goal

pub loop-preserved : goal.loop-preserved
loop-preserved c =
    c.in_ok-push.ensures.items ∙ ap (λ l. l ++ false ∷ []) c.loop.invariant
    ∙ append_assoc (replicate c.args.made true) (replicate c.loop.counter false) (false ∷ [])
    ∙ ap (λ l. replicate c.args.made true ++ l) (replicate-append-replicate c.loop.counter 1 false)
