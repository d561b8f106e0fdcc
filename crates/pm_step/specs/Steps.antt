-- A step from a state to the next.
use Rattle.pm_model.specs.History.{Machine}
use Rattle.pm_model.specs.declared.requests.Entry.{Entry}
use Rattle.pm_machine.specs.Answered.{IsStep}
use Rattle.pm_machine.specs.declared.versions.Stepped.{Stepped}

abbrev pub IsStepFrom : Machine → Entry → Stepped Machine → Type 0
IsStepFrom = IsStep (λ M. M)
