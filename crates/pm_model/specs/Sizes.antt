-- How much of each limit a state has taken. The limits are the project's own.
use Rattle.std.specs.Prelude.{ℕ, Bool, ◌*◌, nat_le, length}
use Rattle.pm_model.specs.Answer.{longest_history}
use Rattle.pm_model.specs.Effect.{max_elements, max_assignments, max_associations}
use Rattle.pm_model.specs.KeptReviews.{max_reviews}
use Rattle.pm_model.specs.Obligations.{max_obligations}
use Rattle.pm_model.specs.Prohibitions.{max_prohibitions}
use Rattle.pm_model.specs.RightSet.{max_rights}
use Rattle.pm_model.specs.Sessions.{max_sessions, max_processes}
use Rattle.pm_model.specs.State.{State}
use Rattle.pm_model.specs.declared.replies.Table.{Table}
use Rattle.pm_model.specs.declared.replies.Table.TheVariants as table

-- how many there are of what has a limit
abbrev pub size_of : State → Table → ℕ
size_of S table.Elements = length S.graph.elements
size_of S table.Assignments = length S.graph.assigned
size_of S table.Associations = length S.graph.associations
size_of S table.Prohibitions = length S.graph.prohibitions
size_of S table.Obligations = length S.graph.obligations
size_of S table.Sessions = length S.graph.procs.sessions
size_of S table.Processes = length S.graph.procs.processes
size_of S table.Reviews = length S.graph.kept
size_of S table.Rights = length S.graph.rights
size_of S table.History = S.version

-- how many there may be
abbrev pub limit_of : Table → ℕ
limit_of table.Elements = max_elements
limit_of table.Assignments = max_assignments
limit_of table.Associations = max_associations
limit_of table.Prohibitions = max_prohibitions
limit_of table.Obligations = max_obligations
limit_of table.Sessions = max_sessions
limit_of table.Processes = max_processes
limit_of table.Reviews = max_reviews
limit_of table.Rights = max_rights
limit_of table.History = longest_history

-- there are nine tenths of what there may be, or more
abbrev pub is_nearly_full : State → Table → Bool
is_nearly_full S of = nat_le (9 * limit_of of) (10 * size_of S of)
