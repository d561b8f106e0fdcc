-- What a decision says, with its reason.
use Rattle.std.specs.Prelude.{ℕ, Bool, List, Option, Some, None}
use Rattle.pm_model.specs.Decision.{lacking, first_applying}
use Rattle.pm_model.specs.declared.prohibitions.Prohibition.{Prohibition}
use Rattle.pm_model.specs.declared.rights.Association.{Association}
use Rattle.pm_decide.specs.declared.verdict.Verdict.{Verdict}
use Rattle.pm_decide.specs.declared.verdict.Verdict.TheVariants.{Granted, NoClass, Prohibited}

-- of the class in which the user lacks the right and the place of the prohibition that denies it, where there are such:
-- the class first, then the prohibition, and granted where there is neither
abbrev pub verdict : Option ℕ → Option ℕ → Verdict
verdict (Some pc) _ = NoClass pc
verdict None (Some i) = Prohibited i
verdict None None = Granted

-- the verdict on the user u, the process q, the right r and the element e
abbrev pub decision : (ℕ → ℕ → Bool) → List Association → List Prohibition → List ℕ → ℕ → Option ℕ → ℕ → ℕ → Verdict
decision below associations prohibitions classes u q r e =
    verdict (lacking below associations classes u r e) (first_applying below prohibitions u q r e)
