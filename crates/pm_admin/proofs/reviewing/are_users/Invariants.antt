-- The answer is that of those that are left.
use Rattle.std.proofs.Common.{◌≡◌, drop}
use Rattle.std.specs.List.{list_all}
use Rattle.pm_model.specs.Reviews.{is_user_at}
use Rattle.pm_admin.proofs.reviewing.are_users.Given as goal

abbrev pub invariant-loop-i : goal.invariant-loop-i
invariant-loop-i l = list_all (is_user_at l.fn.graph.elements) l.users ≡ list_all (is_user_at l.fn.graph.elements) (drop l.i l.users)
