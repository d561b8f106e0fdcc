-- What rows keep: containment is a partial order on those that have a row.
use Rattle.std.specs.Prelude.{◌≡◌, ℕ, true, List, Option}
use Rattle.pm_reach.specs.Rows.{has, below}

pub record IsOrder (rows : List (List (Option (List ℕ)))) : Type 0 where
  -- each is in its own row
  pub itself : (x : ℕ) → has rows x ≡ true → below rows x x ≡ true
  -- a row has what the rows of those in it have
  pub through : (x y z : ℕ) → below rows x y ≡ true → below rows y z ≡ true → below rows x z ≡ true
  -- there is no cycle
  pub alone : (x y : ℕ) → below rows x y ≡ true → below rows y x ≡ true → x ≡ y
  -- rows have those alone that have a row
  pub live : (x y : ℕ) → below rows x y ≡ true → has rows y ≡ true
