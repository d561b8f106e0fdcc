use Rattle.pm_elements.proofs.Edits.{still_taken}
use Rattle.pm_elements.proofs.removal.take_out.Goals as goal

pub own_all-requires-clause-parents_live : goal.own_all-requires-clause-parents_live
own_all-requires-clause-parents_live c = λ i y is. still_taken c.args.slots.now.items c.args.id y (c.requires.parents_live i y is)
