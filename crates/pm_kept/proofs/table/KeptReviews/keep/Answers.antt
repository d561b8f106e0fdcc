use Rattle.pm_kept.proofs.Numbers.{keep-room}
use Rattle.pm_kept.proofs.table.KeptReviews.keep.Goals as goal

pub insert-requires-clause-room : goal.insert-requires-clause-room
insert-requires-clause-room c = keep-room c.self.inside.items.items c.args.of (rw (← c.self.view_is) at c.in_ok-check.ensures.fits)
