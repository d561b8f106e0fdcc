-- The table as callers see it.
use Rattle.std.specs.Prelude.{ℕ, Bool, List}
use Rattle.pm_model.specs.declared.elements.Element.{Element}

pub record Listed : Type 0 where
  -- the live elements, by rising number
  pub elements : List Element
  -- the assignments, by rising element assigned, those of one in order of creation
  pub assigned : List (ℕ × ℕ)
  -- whether the table has shared nothing since it was made
  pub alone : Bool
