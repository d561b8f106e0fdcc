-- The bit of a name is its place among the names of rights.
use Rattle.std.proofs.Common.{◌≡◌, ◌+◌, ℕ, zero, suc, List, [], ◌∷◌, bytes_eq, slice_get, Some, ◌∙◌, ap, arith}
use Rattle.std.specs.List.{position_from}
use Rattle.pm_laws.proofs.Items.{get-contains, none-at}
use Rattle.pm_laws.proofs.Names.{other-swapped}
use Rattle.pm_model.specs.Formed.{NameOnce}
use Rattle.pm_model.specs.RightSet.{bit_named, has_right}
use Rattle.pm_policy.proofs.Ordered.{name-itself}
use Rattle.pm_policy.specs.PolicyOf.{is_bit_in}

place-at : (names : List (List ℕ)) (i k : ℕ) (name : List ℕ) → NameOnce names → slice_get names k ≡ Some name →
    position_from (bytes_eq name) i names ≡ Some (i + k)
place-at [] i k name once is = absurd (cc)
place-at (n ∷ names) i zero name once is =
    let same : n ≡ name = cc in rw (same, name-itself name) (ap (λ m. Some m) (omega arith))
place-at (n ∷ names) i (suc k) name once is =
    let later : slice_get names k ≡ Some name = is in
    let other = other-swapped n name (none-at (bytes_eq n) names name once.0 (get-contains names k name later)) in
    rw other (place-at names (i + 1) k name once.1 later ∙ ap (λ m. Some m) (omega arith))

pub bit-chosen : (names : List (List ℕ)) (set bit : ℕ) (name : List ℕ) → NameOnce names → slice_get names bit ≡ Some name →
    is_bit_in set (bit_named names name) ≡ has_right set bit
bit-chosen names set bit name once is = ap (λ b. is_bit_in set b) (place-at names 0 bit name once is ∙ ap (λ m. Some m) (omega arith))
