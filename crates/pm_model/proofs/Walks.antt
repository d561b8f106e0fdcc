-- One step of a walk over a list by its index.
use Rattle.std.proofs.Common.{◌≡◌, ℕ, ◌+◌, ◌<◌, List, ◌∷◌, length, Some, drop, add-one, drop-cons, slice_get}
use Rattle.std.proofs.lemmas.Option.{slice_get_within, get_or_from_slice_get}

pub drop-item : {X : Type 0} (xs : List X) (i : ℕ) (x : X) → slice_get xs i ≡ Some x → drop i xs ≡ x ∷ drop (i + 1) xs
drop-item xs i x is =
    let below : i < length xs = slice_get_within xs i x is in
    rw (add-one, drop-cons xs i x below, get_or_from_slice_get xs i x x is)
