-- A step is ready on rows of one's own alone.
use Rattle.std.proofs.Common.{◌≡◌, ◌∙◌, true, Some, refl, sym}
use Rattle.std.proofs.lemmas.Option.{none-some}
use Rattle.pm_reach.specs.Rows.{Readied}
use Rattle.pm_reach.specs.Sharing.{IsUnready, is_owned}
use Rattle.pm_reach.specs.Table.{value_of}
use Rattle.pm_reach.specs.declared.held.Held.{Held}
use Rattle.pm_reach.specs.declared.held.Held.TheVariants.{Own, Shared}
use Rattle.pm_reach.specs.declared.step.Step.{Step}

pub ready_own : (held : Held Readied) (step : Step) → IsUnready held → (value_of held).ready ≡ Some step → is_owned held ≡ true
ready_own (Own r) step unready ready = refl
ready_own (Shared a) step unready ready = absurd (none-some step (sym unready ∙ ready))
