-- A list of which the first item is taken.
use Rattle.std.specs.Prelude.{◌≡◌, List, [], ◌∷◌, Option, None, Some}

-- what was taken stood first before, and the others are there after; where nothing was, there was nothing and is nothing
abbrev pub TakesFirst : {A : Type 0} → List A → Option A → List A → Type 0
TakesFirst before None after = (before ≡ []) × (after ≡ [])
TakesFirst before (Some first) after = before ≡ first ∷ after
