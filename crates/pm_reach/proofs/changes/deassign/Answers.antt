-- The rows that were made anew are those that had the pair.
use Rattle.std.proofs.Common.{inl, inr}
use Rattle.pm_reach.proofs.Making.{deassign_ready}
use Rattle.pm_reach.proofs.Orders.{less-contained, outside-told, deassigns}
use Rattle.pm_reach.proofs.changes.deassign.Goals as goal

pub remake_all-requires-clause-ready : goal.remake_all-requires-clause-ready
remake_all-requires-clause-ready g c =
    let there = deassign_ready c.args.table.now c.in-Deassign.is c.requires.step c.requires.taken in
    there.1.rows

pub remake_all-requires-clause-less : goal.remake_all-requires-clause-less
remake_all-requires-clause-less g c = less-contained (g.P.Parents.assigned c.args.parents.now) c.args.table.now.rows c.args.x c.args.y c.requires.was

pub remake_all-requires-clause-outside : goal.remake_all-requires-clause-outside
remake_all-requires-clause-outside g c =
    let there = deassign_ready c.args.table.now c.in-Deassign.is c.requires.step c.requires.taken in
    rw there.0 (outside-told (g.P.Parents.assigned c.args.parents.now) c.args.table.now.rows c.args.x c.args.y c.requires.was)

pub remake_all-requires-clause-fits : goal.remake_all-requires-clause-fits
remake_all-requires-clause-fits g c =
    let there = deassign_ready c.args.table.now c.in-Deassign.is c.requires.step c.requires.taken in
    elim there.1.fits [
      | inl rising ↦ inl rising
      | inr fits ↦ inr (λ w h. rw c.as_mut_slice.ensures.value (fits w (c.requires.rows w h)))
    ]

pub remake_all-requires-clause-within : goal.remake_all-requires-clause-within
remake_all-requires-clause-within g c =
    let there = deassign_ready c.args.table.now c.in-Deassign.is c.requires.step c.requires.taken in
    λ p q h. rw c.as_mut_slice-in-Deassign-2.ensures.value (there.1.wide q (c.requires.order.live p q h))

pub returns-clause-rows : goal.returns-clause-rows
returns-clause-rows g c =
    let there = deassign_ready c.args.table.now c.in-Deassign.is c.requires.step c.requires.taken in
    deassigns (g.P.Parents.assigned c.args.parents.now) c.args.table.now.rows c.remake_all.new.table.rows c.args.x c.args.y _ c.requires.was
    (rw there.0 at c.remake_all.ensures)
