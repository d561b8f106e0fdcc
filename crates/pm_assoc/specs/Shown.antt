-- The table as callers see it.
use Rattle.std.specs.Prelude.{Bool, List}
use Rattle.pm_model.specs.declared.rights.Grantee.{Grantee}

pub record Shown : Type 0 where
  -- the user attributes that have associations, by rising number, each with its own in order of creation
  pub grantees : List Grantee
  -- whether the table has shared none of its pages since it was made
  pub alone : Bool
