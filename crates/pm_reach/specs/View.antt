-- What a look at rows remembers.
use Rattle.std.specs.Prelude.{◌≡◌, ℕ, List, Option}
use Rattle.pm_reach.specs.Rows.{below}
use Rattle.pm_reach.specs.Words.{in_row}
use Rattle.pm_reach.specs.declared.view.LastRow.{LastRow}
use Rattle.pm_reach.specs.declared.view.RowsView.TheInside.{Inside}

-- the words are those of the element's row
abbrev pub IsRowOf : List (List (Option (List ℕ))) → LastRow → Type 0
IsRowOf rows last = (y : ℕ) → in_row last.words.now y ≡ below rows last.x y

pub record IsView (v : Inside) : Type 0 where
  pub bits : IsRowOf v.rows.now.rows v.bits
  pub whole : IsRowOf v.rows.now.rows v.whole
