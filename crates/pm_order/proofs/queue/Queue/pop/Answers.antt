use Rattle.std.proofs.Common.{heap_items}
use Rattle.std.proofs.lemmas.List.Sorted.{IsPermutation-map}
use Rattle.pm_order.proofs.Queued.{none-less}
use Rattle.pm_order.proofs.queue.Queue.pop.Goals as goal

pub returns-clause-some : goal.returns-clause-some
returns-clause-some c = rw (← c.self.view_is) (IsPermutation-map (λ r. r.0) (heap_items c.self.inside.heap) _ c.in_ok-place.ensures.permutation)

pub returns-clause-least : goal.returns-clause-least
returns-clause-least c j h = none-less (λ r. r.0) c.in_ok-place.field-0 (heap_items c.pop.new.self) (c.in_ok-place.ensures.below_top c.self.inside.ordered) j h
