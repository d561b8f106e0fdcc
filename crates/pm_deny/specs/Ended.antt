-- Prohibitions that go with processes.
use Rattle.std.specs.Prelude.{ℕ, Bool, List}
use Rattle.pm_model.specs.Prohibitions.{is_process_in}
use Rattle.pm_model.specs.declared.prohibitions.Prohibition.{Prohibition}

-- the subject is one of these processes
abbrev pub is_on : List ℕ → Prohibition → Bool
is_on ended p = is_process_in ended p.subject
