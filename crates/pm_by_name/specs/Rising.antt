-- Lists that stand in an order. The project's own.
use Rattle.std.specs.Prelude.{◌≡◌, ◌<◌, ◌+◌, ℕ, Bool, true, List, length, get_or}

-- each item stands before the next
abbrev pub AreRising : {X : Type 0} → (X → X → Bool) → List X → Type 0
AreRising {X = X} before xs = (i : ℕ) (d : X) → i + 1 < length xs → before (get_or xs i d) (get_or xs (i + 1) d) ≡ true
