-- Where a number stands among the classes: behind those that are not above it.
use Rattle.std.proofs.Common.{◌≡◌, ℕ, zero, suc, ◌+◌, ◌<◌, ◌≤◌, List, [], ◌∷◌, length, insert, slice_get, Some, refl, ap, arith}
use Rattle.std.specs.List.{remove}
use Rattle.std.proofs.lemmas.Bool.{le-ltb, lt-ltb}
use Rattle.std.proofs.lemmas.Option.{slice_get_within}
use Rattle.pm_state.specs.Classes.{placed_number}

-- the first i numbers are not above n
abbrev pub IsPast : ℕ → List ℕ → ℕ → Type 0
IsPast n ms zero = Unit {0}
IsPast n [] (suc i) = ⊥
IsPast n (m ∷ ms) (suc i) = (m ≤ n) × IsPast n ms i

past-suc : (n m : ℕ) (ms : List ℕ) (i : ℕ) → IsPast n ms i → slice_get ms i ≡ Some m → m ≤ n → IsPast n ms (suc i)
past-suc n m [] i past at low = absurd (let within = slice_get_within [] i m at in omega (arith, within))
past-suc n m (x ∷ ms) zero past at low = let same : x ≡ m = cc in (omega (arith, same, low), tt)
past-suc n m (x ∷ ms) (suc i) past at low = (past.0, past-suc n m ms i past.1 at low)

pub past-more : (n m : ℕ) (ms : List ℕ) (i : ℕ) → IsPast n ms i → slice_get ms i ≡ Some m → m ≤ n → IsPast n ms (i + 1)
past-more n m ms i past at low = let next : i + 1 ≡ suc i = omega arith in rw next (past-suc n m ms i past at low)

pub past-here : (n m : ℕ) (ms : List ℕ) (i : ℕ) → IsPast n ms i → slice_get ms i ≡ Some m → n < m →
    insert ms i n ≡ placed_number n ms
past-here n m [] i past at high = absurd (let within = slice_get_within [] i m at in omega (arith, within))
past-here n m (x ∷ ms) zero past at high = let same : x ≡ m = cc in rw (lt-ltb n x (omega (arith, same, high))) refl
past-here n m (x ∷ ms) (suc i) past at high = rw (le-ltb n x past.0) (ap (λ l. x ∷ l) (past-here n m ms i past.1 at high))

pub past-end : (n : ℕ) (ms : List ℕ) (i : ℕ) → IsPast n ms i → length ms ≤ i → insert ms (length ms) n ≡ placed_number n ms
past-end n [] i past all = refl
past-end n (x ∷ ms) zero past all = absurd (omega (arith, all))
past-end n (x ∷ ms) (suc i) past all = rw (le-ltb n x past.0) (ap (λ l. x ∷ l) (past-end n ms i past.1 (omega (arith, all))))

-- taking out what was put in gives the list back
pub remove-insert : (ms : List ℕ) (i n : ℕ) → i ≤ length ms → remove (insert ms i n) i ≡ ms
remove-insert [] zero n within = refl
remove-insert [] (suc i) n within = absurd (omega (arith, within))
remove-insert (m ∷ ms) zero n within = refl
remove-insert (m ∷ ms) (suc i) n within = ap (λ l. m ∷ l) (remove-insert ms i n (omega (arith, within)))
