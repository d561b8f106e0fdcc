-- What the tables owe for one change.
use Rattle.std.specs.Prelude.{◌≡◌, None, Result, Ok, OnOk, OnErr, IfOk, IfErr}
use Rattle.pm_model.specs.Effect.{refusal, effect, IsCause}
use Rattle.pm_model.specs.Made.{made_by}
use Rattle.pm_model.specs.declared.requests.Change.{Change}
use Rattle.pm_model.specs.declared.replies.ChangeError.{ChangeError}
use Rattle.pm_affect.specs.Counting.{rows_of}
use Rattle.pm_state.specs.Classes.{classes_after}
use Rattle.pm_state.specs.Shown.{graph_of}
use Rattle.pm_state.specs.declared.done.Done.{Done}
use Rattle.pm_state.specs.declared.tables.Tables.{Tables}

-- the same graph and classes; only which pages are the tables' own may have changed
pub record IsSame (old new : Tables) : Type 0 where
  pub graph : graph_of new ≡ graph_of old
  pub classes : new.classes ≡ old.classes

-- the change is made, and its rows are counted; or the first precondition that isn't met is told and all is as before
pub record Changes (old new : Tables) (change : Change) (result : Result Done ChangeError) : Type 0 where
  pub ok : OnOk result (effect (graph_of old) change ≡ Ok (graph_of new))
  pub made : IfOk result (λ (d : Done). d.made ≡ made_by (graph_of old) change)
  pub rows : IfOk result (λ (d : Done). d.rows ≡ rows_of (graph_of old) change)
  pub classes : OnOk result (new.classes ≡ classes_after change old.classes)
  pub refused : IfErr result (IsCause (refusal (graph_of old) change))
  pub err : OnErr result (IsSame old new)

-- the preconditions are met, or the first one that isn't is told
pub record Checks (tables : Tables) (change : Change) (result : Result Unit ChangeError) : Type 0 where
  pub ok : OnOk result (refusal (graph_of tables) change ≡ None)
  pub refused : IfErr result (IsCause (refusal (graph_of tables) change))
