use Rattle.std.proofs.Common.{heap_items}
use Rattle.std.proofs.lemmas.List.Sorted.{IsPermutation-map}
use Rattle.pm_order.proofs.queue.Queue.push.Goals as goal

pub returns : goal.returns
returns c = rw (← c.self.view_is) (IsPermutation-map (λ r. r.0) _ (heap_items c.push.new.self) c.in_ok-push.ensures.permutation)
