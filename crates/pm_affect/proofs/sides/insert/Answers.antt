use Rattle.std.proofs.Common.{sym, ◌∙◌, subst}
use Rattle.pm_affect.specs.Lists.{AreListed, listing}
use Rattle.pm_affect.proofs.Edits.{insert-placed, listed-with, ok-or-err, on_ok-to}
use Rattle.pm_affect.proofs.sides.insert.Goals as goal

pub returns-clause-ok : goal.returns-clause-ok
returns-clause-ok c = on_ok-to c.put.result _ _
    (λ h. h ∙ (rw (c.place-i.ensures.value, c.deref.ensures.value, c.in_ok-item.ensures) (insert-placed (listing c.args.subject c.args.list) c.args.items.now.items)))
    c.put.ensures.ok

pub returns-clause-listed : goal.returns-clause-listed
returns-clause-listed c =
    ok-or-err c.put.result _ _ c.put.ensures.ok c.put.ensures.err (AreListed c.put.new.items.items)
    (λ h. subst AreListed (sym (h ∙ (rw (c.place-i.ensures.value, c.deref.ensures.value, c.in_ok-item.ensures) (insert-placed (listing c.args.subject c.args.list) c.args.items.now.items))))
    (listed-with c.args.subject c.args.list c.args.items.now.items c.requires.listed c.requires.order c.requires.none))
    (λ h. subst AreListed (sym h) c.requires.listed)
