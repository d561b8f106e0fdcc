-- Words of 64 numbers that tell what associations are on.
use Rattle.std.proofs.Common.{◌≡◌, ◌≢◌, ℕ, zero, suc, ◌+◌, ◌*◌, ◌-◌, ◌/◌, ◌%◌, ◌^◌, ◌<◌, ◌≤◌, ◌==◌, ◌||◌, ◌&&◌, not, Bool, true, false, List, [], ◌∷◌, ◌++◌, length, get_or, slice_set, take, filter, bit_or, bit_and, w64, refl, sym, ap, ◌∙◌, arith, inl, inr}
use Rattle.std.specs.Int.{bit_at, bit_not}
use Rattle.std.specs.List.{list_any}
use Rattle.std.proofs.lemmas.Bool.{cases_Bool, true≢false, cases_eq, eq-eqb, ne_eqb, eqb-true}
use Rattle.std.proofs.lemmas.Nat.Bits.{bit_at-zero, bit_at_set_same, bit_at_set_other, bit_at_clear_same, bit_at_clear_other}
use Rattle.std.proofs.Math.Seq.{take-suc-set}
use Rattle.std.proofs.Math.Nat.{mod-lt, div-add-mod}
use Rattle.pm_model.specs.Grants.{is_in, is_told, is_on, grants_off}
use Rattle.pm_model.specs.declared.rights.Grant.{Grant}
use Rattle.pm_model.specs.declared.grants.PlaceWord.{PlaceWord}

same_number : (q n : ℕ) → q / 64 ≡ n / 64 → q % 64 ≡ n % 64 → q ≡ n
same_number q n d m = sym (div-add-mod q 64) ∙ rw (d, m) (div-add-mod n 64)

abbrev pub bit_of : ℕ → ℕ
bit_of m = 1 * 2 ^ (m % 64) % 2 ^ 64

out : (b : Bool) → false ≡ (b && false)
out true = refl
out false = refl

stays : (b : Bool) → b ≡ (b && true)
stays true = refl
stays false = refl

-- one number more in its word
pub number_set : (k w m : ℕ) → m / 64 ≡ k → (n : ℕ) → is_in n (record { k = k; word = bit_or w (bit_of m) }) ≡ (n == m || is_in n (record { k = k; word = w }))
number_set k w m here n = elim (cases_eq (n / 64) (m / 64)) [
  | inl d ↦ elim (cases_eq (n % 64) (m % 64)) [
    | inl e ↦ rw (e, bit_at_set_same w64 w (m % 64) (mod-lt m (omega arith)), eq-eqb n m (same_number n m d e), eq-eqb k (n / 64) (sym (d ∙ here))) refl
    | inr e ↦ rw (ne_eqb n m (λ s. e (ap (λ x. x % 64) s)), bit_at_set_other w64 w (m % 64) (mod-lt m (omega arith)) (n % 64) e) refl
  ]
  | inr d ↦ rw (ne_eqb n m (λ s. d (ap (λ x. x / 64) s)), ne_eqb k (n / 64) (λ s. d (sym (here ∙ s)))) refl
]

-- no number is in a word without bits
pub none_in : (k n : ℕ) → is_in n (record { k = k; word = 0 }) ≡ false
none_in k n = rw (bit_at-zero (n % 64)) (sym (out (k == n / 64)))

-- one number less
pub number_cleared : (k w m : ℕ) → m / 64 ≡ k → (n : ℕ) → is_in n (record { k = k; word = bit_and w (bit_not w64 (bit_of m)) }) ≡ (is_in n (record { k = k; word = w }) && not (n == m))
number_cleared k w m here n = elim (cases_eq (n / 64) (m / 64)) [
  | inl d ↦ elim (cases_eq (n % 64) (m % 64)) [
    | inl e ↦ rw (e, bit_at_clear_same w64 w (m % 64) (mod-lt m (omega arith)), eq-eqb n m (same_number n m d e), eq-eqb k (n / 64) (sym (d ∙ here))) (out _)
    | inr e ↦ rw (ne_eqb n m (λ s. e (ap (λ x. x % 64) s)), bit_at_clear_other w64 w (m % 64) (mod-lt m (omega arith)) (n % 64) (mod-lt n (omega arith)) e) (stays _)
  ]
  | inr d ↦ rw (ne_eqb n m (λ s. d (ap (λ x. x / 64) s)), ne_eqb k (n / 64) (λ s. d (sym (here ∙ s)))) refl
]

-- a word of other numbers has none of these
pub number_elsewhere : (place : PlaceWord) (m : ℕ) → place.k ≢ m / 64 → (n : ℕ) → is_in n place ≡ (is_in n place && not (n == m))
number_elsewhere place m other n = elim (cases_eq n m) [
  | inl e ↦ rw (ne_eqb place.k (n / 64) (λ s. other (s ∙ ap (λ x. x / 64) e))) refl
  | inr d ↦ rw (ne_eqb n m d) (stays _)
]

or_swap : (a b c : Bool) → (a || (b || c)) ≡ (b || (a || c))
or_swap true true c = refl
or_swap true false c = refl
or_swap false true c = refl
or_swap false false c = refl

or_assoc : (a b c : Bool) → ((a || b) || c) ≡ (a || (b || c))
or_assoc true b c = refl
or_assoc false b c = refl

-- one more in one of the words
pub told_set : (ps : List PlaceWord) (i : ℕ) (d q : PlaceWord) (m : ℕ) → i < length ps → ((n : ℕ) → is_in n q ≡ (n == m || is_in n (get_or ps i d))) →
    (n : ℕ) → is_told (slice_set ps i q) n ≡ (n == m || is_told ps n)
told_set [] i d q m there more n = absurd (omega (arith, there))
told_set (x ∷ xs) zero d q m there more n = ap (λ b. b || is_told xs n) (more n) ∙ or_assoc (n == m) (is_in n x) (is_told xs n)
told_set (x ∷ xs) (suc i) d q m there more n = rw (told_set xs i d q m (omega (arith, there)) more n) (or_swap (is_in n x) (n == m) (is_told xs n))

-- one more behind
pub told_pushed : (ps : List PlaceWord) (q : PlaceWord) (m : ℕ) → ((n : ℕ) → is_in n q ≡ (n == m)) →
    (n : ℕ) → is_told (ps ++ q ∷ []) n ≡ (n == m || is_told ps n)
told_pushed [] q m alone n = rw (alone n) refl
told_pushed (x ∷ xs) q m alone n = rw (told_pushed xs q m alone n) (or_swap (is_in n x) (n == m) (is_told xs n))

and_or : (a b c : Bool) → ((a && c) || (b && c)) ≡ ((a || b) && c)
and_or true true true = refl
and_or true true false = refl
and_or true false true = refl
and_or true false false = refl
and_or false b c = refl

pub cleared_self : (p : PlaceWord) (m : ℕ) → (is_in m p && not (m == m)) ≡ false
cleared_self p m = rw (eq-eqb m m refl) (sym (out (is_in m p)))

not-false : (b : Bool) → not b ≡ false → b ≡ true
not-false true h = refl
not-false false h = sym h

-- one less in one of the words: of other numbers they tell the same
pub told_cleared : (ps : List PlaceWord) (i : ℕ) (d q : PlaceWord) (m : ℕ) → i < length ps → ((n : ℕ) → is_in n q ≡ (is_in n (get_or ps i d) && not (n == m))) →
    (n : ℕ) → (is_told (slice_set ps i q) n && not (n == m)) ≡ (is_told ps n && not (n == m))
told_cleared [] i d q m there less n = absurd (omega (arith, there))
told_cleared (x ∷ xs) zero d q m there less n = rw (less n) (twice (is_in n x) (is_told xs n) (not (n == m))) where
  twice : (a b c : Bool) → (((a && c) || b) && c) ≡ ((a || b) && c)
  twice true b true = refl
  twice true true false = refl
  twice true false false = refl
  twice false b c = refl
told_cleared (x ∷ xs) (suc i) d q m there less n = sym (and_or (is_in n x) (is_told (slice_set xs i q) n) (not (n == m))) ∙ ap (λ b. (is_in n x && not (n == m)) || b) (told_cleared xs i d q m (omega (arith, there)) less n) ∙ and_or (is_in n x) (is_told xs n) (not (n == m))

none-behind : (m : ℕ) (ps : List PlaceWord) (q : PlaceWord) → is_told ps m ≡ false → is_in m q ≡ false → is_told (ps ++ q ∷ []) m ≡ false
none-behind m [] q none is = rw is refl
none-behind m (x ∷ ps) q none is = elim (cases_Bool (is_in m x)) [
  | inl t ↦ absurd (true≢false (sym (rw t refl) ∙ none))
  | inr f ↦ rw (f, none-behind m ps q (sym (rw f refl) ∙ none) is) refl
]

-- the words up to the next one haven't the number
pub none_ahead : (ps : List PlaceWord) (i : ℕ) (q : PlaceWord) (m : ℕ) → i < length ps → is_told (take i ps) m ≡ false → is_in m q ≡ false → is_told (take (i + 1) (slice_set ps i q)) m ≡ false
none_ahead ps i q m there none is =
    let on : i + 1 ≡ suc i = omega arith in
    ap (λ j. is_told (take j (slice_set ps i q)) m) on ∙ ap (λ l. is_told l m) (take-suc-set ps i q there) ∙ none-behind m (take i ps) q none is

-- none of all words has it
pub told_less_one : (old new : List PlaceWord) (m : ℕ) → is_told new m ≡ false → ((n : ℕ) → (is_told new n && not (n == m)) ≡ (is_told old n && not (n == m))) →
    (n : ℕ) → is_told new n ≡ (is_told old n && not (n == m))
told_less_one old new m none others n = elim (cases_eq n m) [
  | inl e ↦ rw (eq-eqb n m e) (ap (is_told new) e ∙ none ∙ out (is_told old n))
  | inr d ↦ stays (is_told new n) ∙ ap (λ b. is_told new n && not b) (sym (ne_eqb n m d)) ∙ others n
]

-- words without numbers tell nothing
pub told_full : (ps : List PlaceWord) (n : ℕ) → is_told (filter (λ p. not (p.word == 0)) ps) n ≡ is_told ps n
told_full [] n = refl
told_full (x ∷ xs) n = elim (cases_Bool (x.word == 0)) [
  | inl t ↦ rw (t, told_full xs n) (ap (λ b. b || is_told xs n) (sym (ap (λ w. is_in n (record { k = x.k; word = w })) (eqb-true x.word 0 t) ∙ none_in x.k n)))
  | inr f ↦ rw (f, told_full xs n) refl
]

eqb-turn : (a b : ℕ) → (a == b) ≡ (b == a)
eqb-turn a b = elim (cases_eq a b) [
  | inl e ↦ rw (eq-eqb a b e, eq-eqb b a (sym e)) refl
  | inr d ↦ rw (ne_eqb a b d, ne_eqb b a (λ e. d (sym e))) refl
]

any-behind : (n : ℕ) (gs : List Grant) (g : Grant) → list_any (is_on n) (gs ++ g ∷ []) ≡ (n == g.at || list_any (is_on n) gs)
any-behind n [] g = rw (eqb-turn g.at n) refl
any-behind n (x ∷ gs) g = rw (any-behind n gs g) (or_swap (x.at == n) (n == g.at) (list_any (is_on n) gs))

-- one association more, and its number put into the words
pub told_more : (ps qs : List PlaceWord) (gs : List Grant) (g : Grant) → ((n : ℕ) → is_told ps n ≡ list_any (is_on n) gs) →
    ((n : ℕ) → is_told qs n ≡ (n == g.at || is_told ps n)) → (n : ℕ) → is_told qs n ≡ list_any (is_on n) (gs ++ g ∷ [])
told_more ps qs gs g told more n = rw (more n, told n) (sym (any-behind n gs g))

-- associations gone, and their number taken out of the words
any-off : (m n : ℕ) (gs : List Grant) → list_any (is_on n) (grants_off m gs) ≡ (list_any (is_on n) gs && not (n == m))
any-off m n [] = refl
any-off m n (x ∷ gs) = elim (cases_eq x.at m) [
  | inl e ↦ rw (eq-eqb x.at m e, any-off m n gs) (gone e)
  | inr d ↦ rw (ne_eqb x.at m d, any-off m n gs) (left d)
] where
  gone : x.at ≡ m → (list_any (is_on n) gs && not (n == m)) ≡ ((x.at == n || list_any (is_on n) gs) && not (n == m))
  gone e = elim (cases_eq n m) [
    | inl s ↦ rw (eq-eqb n m s) (sym (out (list_any (is_on n) gs)) ∙ out (x.at == n || list_any (is_on n) gs))
    | inr s ↦ rw (ne_eqb x.at n (λ t. s (sym t ∙ e))) refl
  ]

  left : x.at ≢ m → (x.at == n || (list_any (is_on n) gs && not (n == m))) ≡ ((x.at == n || list_any (is_on n) gs) && not (n == m))
  left d = elim (cases_eq n m) [
    | inl s ↦ rw (eq-eqb n m s, ne_eqb x.at n (λ t. d (t ∙ s))) refl
    | inr s ↦ rw (ne_eqb n m s) (ap (λ b. x.at == n || b) (sym (stays (list_any (is_on n) gs))) ∙ stays (x.at == n || list_any (is_on n) gs))
  ]

pub told_less : (ps qs : List PlaceWord) (gs : List Grant) (m : ℕ) → ((n : ℕ) → is_told ps n ≡ list_any (is_on n) gs) →
    ((n : ℕ) → is_told qs n ≡ (is_told ps n && not (n == m))) → (n : ℕ) → is_told qs n ≡ list_any (is_on n) (grants_off m gs)
told_less ps qs gs m told less n = rw (less n, told n) (sym (any-off m n gs))
