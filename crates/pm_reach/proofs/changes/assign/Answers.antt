-- The rows that got the other row are those that contain x.
use Rattle.pm_reach.proofs.Making.{assigned, assign_ready}
use Rattle.pm_reach.proofs.changes.assign.Goals as goal

pub join_all-requires-clause-ready : goal.join_all-requires-clause-ready
join_all-requires-clause-ready c z h =
    let there = assign_ready c.args.table.now c.in-Assign.is c.requires.taken in
    rw c.as_slice.ensures.value (there.rows z h)

pub returns-clause-rows : goal.returns-clause-rows
returns-clause-rows c =
    assigned c.args.table.now c.join_all.new.table.rows c.in-Assign.is c.requires.step c.requires.taken (rw c.as_slice.ensures.value at c.join_all.ensures)
