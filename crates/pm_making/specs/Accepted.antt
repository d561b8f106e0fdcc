-- Lines that make a document. The project's own.
use Rattle.std.specs.Prelude.{◌≡◌, ℕ, List, [], ◌∷◌, ◌++◌, codes, map}
use Rattle.pm_model.specs.History.{replay}
use Rattle.pm_model.specs.Lines.{whole}
use Rattle.pm_model.specs.Recorded.{history_after}
use Rattle.pm_model.specs.declared.requests.Entry.{Entry}
use Rattle.pm_policy.specs.PolicyOf.{HasPolicy}
use Rattle.pm_policy.specs.Requests.{requests}
use Rattle.pm_policy.specs.declared.policy.Policy.{Policy}
use Rattle.pm_making.specs.Lines.{document_lines}

-- lines, each with its line feed
abbrev pub fed : List (List ℕ) → List ℕ
fed [] = []
fed (line ∷ lines) = line ++ codes "\n" ++ fed lines

-- a machine that is given these, from the opening state on, accepts all the document's requests and no others, and then has its policy
pub record Make (D : Policy) (lines : List (List ℕ)) : Type 0 where
  pub text : document_lines D ≡ fed lines
  pub accepted : map (λ (e : Entry). e.request) (history_after [] (map whole lines)) ≡ requests D
  pub policy : HasPolicy D (replay (history_after [] (map whole lines))).graph
