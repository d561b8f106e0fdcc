-- All that is contained in an element, as a row.
use Rattle.std.specs.Prelude.{◌≡◌, ℕ, List, Option}
use Rattle.pm_reach.specs.Words.{in_row}
use Rattle.pm_reach.specs.Rows.{below}
use Rattle.pm_reach.specs.Passes.{Spans}
use Rattle.pm_reach.specs.declared.inside.Inside.{Inside}

pub record IsInside (rows : List (List (Option (List ℕ)))) (found : Inside) : Type 0 where
  pub spans : Spans rows found.of found.span.low found.span.high
  pub same : (z : ℕ) → in_row found.row.items z ≡ below rows z found.of
