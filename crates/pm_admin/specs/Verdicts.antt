-- How a verdict is told.
use Rattle.std.specs.Prelude.{List, Option, None, Some, slice_get, length, ◌<◌}
use Rattle.pm_model.specs.declared.prohibitions.Prohibition.{Prohibition}
use Rattle.pm_model.specs.declared.replies.Reason.{Reason}
use Rattle.pm_model.specs.declared.replies.Reason.TheVariants as reason
use Rattle.pm_decide.specs.declared.verdict.Verdict.{Verdict}
use Rattle.pm_decide.specs.declared.verdict.Verdict.TheVariants.{Granted, NoClass, Prohibited}

abbrev pub called : Option Prohibition → Option Reason
called (Some p) = Some (reason.Prohibition p.name)
called None = None

-- the reason of a denial, among these prohibitions
abbrev pub reason_by : List Prohibition → Verdict → Option Reason
reason_by ps Granted = None
reason_by ps (NoClass pc) = Some (reason.Class pc)
reason_by ps (Prohibited i) = called (slice_get ps i)

-- the verdict names one of these prohibitions, where it names one
abbrev pub IsPlaced : List Prohibition → Verdict → Type 0
IsPlaced ps (Prohibited i) = i < length ps
IsPlaced ps _ = Unit {0}
