-- Bytes that come in pieces.
use Rattle.std.specs.Prelude.{ℕ, List, ◌++◌, fold}
use Rattle.pm_model.specs.Lines.{shape}

-- what waits once each piece has been pushed behind what waited, one after another
abbrev pub pushed_all : List ℕ → List (List ℕ) → List ℕ
pushed_all waiting pieces = fold (λ w piece. shape (w ++ piece)) waiting pieces
