use Rattle.std.proofs.Common.{◌≡◌, ◌<◌, ◌≤◌, ℕ, length, slice_index_or}
use Rattle.pm_house.specs.Seated.{Rests}
use Rattle.pm_worker.specs.Feeding.{HasMet}
use Rattle.pm_worker.proofs.crews.meet_each.Given as goal

abbrev pub invariant-loop-place : goal.invariant-loop-place
invariant-loop-place g l = record {
  first : Rests l.fn.first l.first;
  count : length l.others ≡ length l.fn.others;
  met : (i : ℕ) (d : _) → i < l.place → HasMet l.first (slice_index_or l.fn.others i d).seat (slice_index_or l.others i d).seat (slice_index_or l.fn.others i d).feed (slice_index_or l.others i d).feed;
  rest : (i : ℕ) (d : _) → l.place ≤ i → slice_index_or l.others i d ≡ slice_index_or l.fn.others i d;
}
