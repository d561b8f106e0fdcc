-- A run of requests, one after another.
use Rattle.std.specs.Prelude.{◌≡◌, ◌≤◌, ℕ, List, [], ◌+◌, ◌-◌, ◌*◌, if◌then◌else◌, length, nat_lt}
use Rattle.pm_model.specs.Effect.{max_elements}
use Rattle.pm_model.specs.History.{Machine}
use Rattle.pm_model.specs.Recorded.{recorded}
use Rattle.pm_model.specs.declared.requests.Entry.{Entry}
use Rattle.pm_model.specs.declared.requests.Request.{Request}
use Rattle.pm_model.specs.declared.requests.What.TheVariants as what
use Rattle.pm_affect.specs.Counting.{Written, capped, work_in}
use Rattle.pm_generator.specs.Summaries.{history_after, is_denial, is_grant, is_other_refusal, replied, shared, sum_over}
use Rattle.pm_generator.specs.declared.run.Counts.{Counts}

-- what an entry has left as it was, since a version and a count of rows; nothing where there was none
abbrev pub shared_since : Machine → ℕ → ℕ → ℕ
shared_since M version rows =
    if nat_lt version (length M.history) then length M.graph.elements - (capped (work_in Written M.history) - rows) else 0

-- no count is above what so many requests can make it
pub record IsWithin (counts : Counts) : Type 0 where
  pub granted : counts.replies.granted ≤ counts.requests
  pub denied : counts.replies.denied ≤ counts.requests
  pub refused : counts.replies.refused ≤ counts.requests
  pub shared : counts.shared ≤ counts.requests * max_elements

-- the request was asked after the history H, of which it made K, and counted
pub record IsAsked (H K : List Entry) (old new : Counts) (r : Request) : Type 0 where
  pub history : K ≡ recorded H (what.Request r)
  pub requests : new.requests ≡ old.requests + 1
  pub granted : new.replies.granted ≡ old.replies.granted + replied is_grant H r
  pub denied : new.replies.denied ≡ old.replies.denied + replied is_denial H r
  pub refused : new.replies.refused ≡ old.replies.refused + replied is_other_refusal H r
  pub shared : new.shared ≡ old.shared + shared H r

-- of all these requests, the rest is still to be asked, after the history H
pub record IsRunning (all rest : List Request) (H : List Entry) (counts : Counts) : Type 0 where
  pub within : IsWithin counts
  pub history : history_after [] all ≡ history_after H rest
  pub requests : length all ≡ counts.requests + length rest
  pub granted : sum_over (replied is_grant) [] all ≡ counts.replies.granted + sum_over (replied is_grant) H rest
  pub denied : sum_over (replied is_denial) [] all ≡ counts.replies.denied + sum_over (replied is_denial) H rest
  pub refused : sum_over (replied is_other_refusal) [] all ≡ counts.replies.refused + sum_over (replied is_other_refusal) H rest
  pub shared : sum_over shared [] all ≡ counts.shared + sum_over shared H rest
