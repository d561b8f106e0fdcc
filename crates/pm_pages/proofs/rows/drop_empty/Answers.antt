use Rattle.std.proofs.Common.{◌∙◌, ap, length, sym, ◌==◌}
use Rattle.pm_pages.proofs.Changed.{remove-empty, keep-full}
use Rattle.pm_pages.proofs.rows.drop_empty.Goals as goal

pub returns-then-is_empty : goal.returns-then-is_empty
returns-then-is_empty g c =
    c.remove-empty.ensures.items
    ∙ remove-empty _ _ c.index.result.now c.requires c.index.ensures (ap (λ xs. length xs == 0) (sym c.items.ensures) ∙ sym c.is_empty.ensures ∙ c.if-is_empty.true)

pub returns-else-is_empty : goal.returns-else-is_empty
returns-else-is_empty g c =
    keep-full _ _ c.index.result.now c.requires c.index.ensures (ap (λ xs. length xs == 0) (sym c.items.ensures) ∙ sym c.is_empty.ensures ∙ c.if-is_empty.false)
