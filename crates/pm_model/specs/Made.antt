-- What a change makes, and what of it the reply tells. The project's own.
use Rattle.pm_model.specs.State.{Graph}
use Rattle.pm_model.specs.KeptReviews.{unkept}
use Rattle.pm_model.specs.declared.requests.Change.{Change}
use Rattle.pm_model.specs.declared.requests.Change.TheVariants.{Create, OpenSession, StartProcess, Keep}
use Rattle.pm_model.specs.declared.replies.Made.{Made}
use Rattle.pm_model.specs.declared.replies.Made.TheVariants as made
use Rattle.pm_model.specs.declared.replies.Shown.{Shown}
use Rattle.pm_model.specs.declared.replies.Shown.TheVariants as shown

-- in the graph before the change
abbrev pub made_by : Graph → Change → Made
made_by G (Create id kind name into) = made.Element id
made_by G (OpenSession user) = made.Session G.procs.next_session
made_by G (StartProcess session) = made.Process G.procs.next_process
made_by G (Keep of) = made.Review (unkept G.kept)
made_by G _ = made.Nothing

abbrev pub shown_of : Made → Shown
shown_of (made.Session n) = shown.Session n
shown_of (made.Process n) = shown.Process n
shown_of (made.Review n) = shown.Review n
shown_of _ = shown.Nothing
