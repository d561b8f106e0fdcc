-- Numbers that rise up to a bound, and the requests that go by them.
use Rattle.std.proofs.Common.{◌≡◌, ◌<◌, ◌≤◌, ◌+◌, ◌-◌, ◌*◌, ◌/◌, ◌∷◌, ◌++◌, ℕ, zero, suc, List, true, false, map, arith, refl, ap}
use Rattle.std.specs.List.{range_with_len, flat_map, filter}
use Rattle.pm_model.specs.declared.requests.Request.{Request}
use Rattle.pm_generator.specs.Generated.{numbers, is_leaf}

numbers-first : (i n : ℕ) → i < n → numbers i n ≡ i ∷ numbers (i + 1) n
numbers-first i n h = let e : n - i ≡ suc (n - (i + 1)) = omega arith in rw e refl

-- one request for each number: the first, and the others
pub one_each : (f : ℕ → Request) (i n : ℕ) → i < n → map f (numbers i n) ≡ f i ∷ map f (numbers (i + 1) n)
one_each f i n h = ap (map f) (numbers-first i n h)

-- some requests for each number: those of the first, and the others
pub some_each : (f : ℕ → List Request) (i n : ℕ) → i < n → flat_map f (numbers i n) ≡ f i ++ flat_map f (numbers (i + 1) n)
some_each f i n h = ap (flat_map f) (numbers-first i n h)

-- the leaves among so many numbers from i on, where all are, or up to the first that is
leaves_all : (n i k : ℕ) → n ≤ 2 * i + 1 → filter (is_leaf n) (range_with_len i k) ≡ range_with_len i k
leaves_all n i zero h = refl
leaves_all n i (suc k) h =
    let now : is_leaf n i ≡ true = grind arith in
    rw now (ap (λ (xs : List ℕ). i ∷ xs) (leaves_all n (i + 1) k (omega arith)))

leaves_from : (n i k m : ℕ) → i + k ≡ n / 2 → filter (is_leaf n) (range_with_len i (k + m)) ≡ range_with_len (n / 2) m
leaves_from n i zero m h =
    let e : zero + m ≡ m = omega arith in
    let f : i ≡ n / 2 = omega arith in
    rw (e, f) (leaves_all n (n / 2) m (omega arith))
leaves_from n i (suc k) m h =
    let e : suc k + m ≡ suc (k + m) = omega arith in
    let now : is_leaf n i ≡ false = grind arith in
    rw e (rw now (leaves_from n (i + 1) k m (omega arith)))

-- the groups that are leaves are the later half
pub leaves : (n : ℕ) → filter (is_leaf n) (numbers 0 n) ≡ numbers (n / 2) n
leaves n =
    let e : n - 0 ≡ n / 2 + (n - n / 2) = omega arith in
    rw e (leaves_from n 0 (n / 2) (n - n / 2) (omega arith))
