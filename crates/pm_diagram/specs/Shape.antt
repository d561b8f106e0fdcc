-- The diagram as callers see it.
use Rattle.std.specs.Prelude.{ℕ, List, length, filter}
use Rattle.pm_model.specs.Containment.{contained}
use Rattle.pm_model.specs.declared.elements.Element.{Element}

pub record Shape : Type 0 where
  -- the live elements, by rising number
  pub elements : List Element
  -- the assignments, by rising element assigned, those of one in order of creation
  pub assigned : List (ℕ × ℕ)

-- how many live elements are contained in x, itself among them
abbrev pub count_inside : List Element → List (ℕ × ℕ) → ℕ → ℕ
count_inside es assigned x = length (filter (λ e. contained assigned e.number x) es)
