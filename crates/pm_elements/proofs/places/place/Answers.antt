-- The container of a new element is another than itself.
use Rattle.pm_elements.proofs.Placing.{into_still, few_still}
use Rattle.pm_elements.proofs.places.place.Goals as goal

pub join-requires-clause-into_live : goal.join-requires-clause-into_live
join-requires-clause-into_live c = rw (c.put.ensures, c.own_container.ensures.items, c.requires.free) (into_still c.args.slots.now.items c.in_ok-slot.slot c.args.new.now.into c.requires.into_live)

pub join-requires-clause-few : goal.join-requires-clause-few
join-requires-clause-few c =
    rw (c.put.ensures, c.own_container.ensures.items, c.requires.free) (few_still c.args.slots.now.items c.in_ok-slot.slot c.args.new.now.into c.requires.into_live c.requires.few)
