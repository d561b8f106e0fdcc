-- How many requests a generated policy has.
use Rattle.std.proofs.Common.{◌≡◌, ◌<◌, ◌≤◌, ◌+◌, ◌-◌, ◌*◌, ◌/◌, ℕ, zero, suc, List, map, length, min, arith, refl, ap, ◌∙◌, length-append}
use Rattle.std.specs.List.{range_with_len, flat_map, filter}
use Rattle.std.proofs.lemmas.Nat.{mul-le}
use Rattle.std.proofs.lemmas.List.FromFn.{length-map-range_with_len}
use Rattle.pm_model.specs.declared.requests.Request.{Request}
use Rattle.pm_generator.specs.Generated.{numbers, is_leaf, generated, member_pair, session_pair, accesses, accesses_by, create_group, create_folder, let_read, keep_caps, assign_group, access}
use Rattle.pm_generator.proofs.Numbers.{leaves}

-- as many requests for each number
length-as_many : (f : ℕ → List Request) (m : ℕ) → ((i : ℕ) → length (f i) ≡ m) → (a k : ℕ) → length (flat_map f (range_with_len a k)) ≡ k * m
length-as_many f m e a zero = omega arith
length-as_many f m e a (suc k) =
    let now = e a in
    let rest = length-as_many f m e (a + 1) k in
    rw (length-append, now, rest) (omega arith)

one_each : (f : ℕ → Request) (a b : ℕ) → length (map f (numbers a b)) ≡ b - a
one_each f a b = length-map-range_with_len f a (b - a)

round : (n : ℕ) → length (accesses n) ≡ n * n
round n =
    let all : n - 0 ≡ n = omega arith in
    length-as_many (accesses_by n) n (λ i. one_each (access i) 0 n ∙ all) 0 (n - 0) ∙ ap (λ (k : ℕ). k * n) all

pub requests_counted : (n : ℕ) → 0 < n → length (generated n) ≡ 7 * n + (n - n / 2) + min n 8 + 2 * (n * n)
requests_counted n h =
    let groups = one_each create_group 0 n in
    let folders = one_each create_folder 0 n in
    let members = length-as_many member_pair 2 (λ i. refl) 0 (n - 0) in
    let associations : length (map let_read (filter (is_leaf n) (numbers 0 n))) ≡ n - n / 2 =
    ap (λ (is : List ℕ). length (map let_read is)) (leaves n) ∙ one_each let_read (n / 2) n in
    let sessions = length-as_many session_pair 2 (λ i. refl) 0 (n - 0) in
    let reviews = one_each keep_caps 0 (min n 8) in
    let reads = round n in
    let assignments = one_each assign_group 1 n in
    simp length-append (omega arith)

pub most_requests : (n : ℕ) → 0 < n → n ≤ 200 → length (generated n) ≤ 81508
most_requests n some most =
    let count = requests_counted n some in
    let square : n * n ≤ 200 * 200 = mul-le n n 200 200 most most in
    omega (arith, count, square)
