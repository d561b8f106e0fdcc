-- A number in hexadecimal digits: its last digit apart, how many digits there are, and that each may stand in a name.
use Rattle.std.proofs.Common.{◌≡◌, ℕ, zero, suc, ◌+◌, ◌-◌, ◌/◌, ◌%◌, ◌^◌, ◌<◌, ◌≤◌, ◌==◌, true, false, List, [], ◌∷◌, ◌++◌, length, nat_lt, refl, sym, ap, ◌∙◌, arith, append_assoc, inl, inr}
use Rattle.std.proofs.lemmas.Bool.{and_from, cases_Bool}
use Rattle.std.proofs.lemmas.Bool.Decides.{nat_tests}
use Rattle.std.proofs.lemmas.Fmt.{digits_is_IsNumeral, hex_one_digit}
use Rattle.std.specs.Fmt.{digits, digits_onto, digit_glyph}
use Rattle.std.specs.List.{list_all}
use Rattle.std.specs.Str.Parse.{digits_value}
use Rattle.pm_model.specs.Name.{is_name_byte}
use Rattle.pm_model.specs.RightSet.{right_bits}
use Rattle.json.specs.Print.{quoted}
use Rattle.pm_print.proofs.Members.{quoted-plain}
use native.Mathlib.Nat.{pow-suc}
use lib.Dec.{lit≤}

abbrev last : ℕ → ℕ
last n = digit_glyph false (n % 16)

onto-behind : (k n : ℕ) (acc : List ℕ) → digits_onto k 16 false n acc ≡ digits_onto k 16 false n [] ++ acc
onto-behind zero n acc = refl
onto-behind (suc k) n acc = elim (cases_Bool (n / 16 == 0)) [
  | inl is ↦ rw is refl
  | inr is ↦ rw is (onto-behind k (n / 16) (last n ∷ acc) ∙ (sym (append_assoc (digits_onto k 16 false (n / 16) []) (last n ∷ []) acc)
      ∙ ap (λ l. l ++ acc) (sym (onto-behind k (n / 16) (last n ∷ [])))))
]

-- a sixteenth
below_sixteenth : (m n : ℕ) → n < 16 ^ suc m → n / 16 < 16 ^ m
below_sixteenth m n h = let p = pow-suc 16 m in omega (arith, p, h)

small : (n : ℕ) → n < 16 → (n / 16 == 0) ≡ true
small n h = let e : n / 16 ≡ 0 = omega arith in rw e refl

-- one place more than the number needs changes nothing
onto-more : (k n : ℕ) (acc : List ℕ) → n < 16 ^ suc k → digits_onto (suc (suc k)) 16 false n acc ≡ digits_onto (suc k) 16 false n acc
onto-more zero n acc h = let is = small n h in rw is refl
onto-more (suc k) n acc h = elim (cases_Bool (n / 16 == 0)) [
  | inl is ↦ rw is refl
  | inr is ↦ rw is (onto-more k (n / 16) (last n ∷ acc) (below_sixteenth (suc k) n h))
]

onto-last : (k n : ℕ) → (n / 16 == 0) ≡ false → n < 16 ^ suc (suc k) →
    digits_onto (suc (suc k)) 16 false n [] ≡ digits_onto (suc (suc k)) 16 false (n / 16) [] ++ last n ∷ []
onto-last k n is h =
    let step : digits_onto (suc (suc k)) 16 false n [] ≡ digits_onto (suc k) 16 false (n / 16) (last n ∷ []) = rw is refl in
    step ∙ (onto-behind (suc k) (n / 16) (last n ∷ []) ∙ ap (λ l. l ++ last n ∷ []) (sym (onto-more k (n / 16) [] (below_sixteenth (suc k) n h))))

fits : (n : ℕ) → n < 2 ^ right_bits → n < 16 ^ 64
fits n h = let wide : 2 ^ right_bits ≤ 16 ^ 64 = lit≤ tt in omega (arith, wide, h)

large : (n : ℕ) → 16 ≤ n → (n / 16 == 0) ≡ false
large n h = grind (arith, nat_tests)

-- a number below 16 has one digit
pub hex_one : (n : ℕ) → n < 16 → digits 16 false n ≡ digit_glyph false n ∷ []
hex_one n h = hex_one_digit false n h

-- the digits of any other are those of its sixteenth, and its last one
pub hex_step : (n : ℕ) → 16 ≤ n → n < 2 ^ right_bits → digits 16 false n ≡ digits 16 false (n / 16) ++ digit_glyph false (n % 16) ∷ []
unfolding digits
hex_step n h f = onto-last 62 n (large n h) (fits n f)

-- at most one for each power of 16
onto_short : (m k n : ℕ) (acc : List ℕ) → n < 16 ^ suc m → m ≤ k → length (digits_onto (suc k) 16 false n acc) ≤ suc m + length acc
onto_short zero k n acc h le = let is = small n h in rw is (omega arith)
onto_short (suc m) zero n acc h le = absurd (omega (arith, le))
onto_short (suc m) (suc k) n acc h le = elim (cases_Bool (n / 16 == 0)) [
  | inl is ↦ rw is (omega arith)
  | inr is ↦ rw is (let rest = onto_short m k (n / 16) (last n ∷ acc) (below_sixteenth (suc m) n h) (omega (arith, le)) in omega (arith, rest))
]

pub hex_length : (n : ℕ) → n < 2 ^ right_bits → length (digits 16 false n) ≤ right_bits / 4
unfolding digits
hex_length n h = let short = onto_short (right_bits / 4 - 1) 63 n [] h (omega arith) in omega (arith, short)

-- each digit may stand in a name
glyph_plain : (d : ℕ) → d < 16 → is_name_byte (digit_glyph false d) ≡ true
glyph_plain d h = elim (cases_Bool (nat_lt d 10)) [
  | inl is ↦ rw is (grind (arith, nat_tests))
  | inr is ↦ rw is (grind (arith, nat_tests))
]

onto_plain : (k n : ℕ) (acc : List ℕ) → list_all is_name_byte acc ≡ true → list_all is_name_byte (digits_onto k 16 false n acc) ≡ true
onto_plain zero n acc h = h
onto_plain (suc k) n acc h =
    let here : is_name_byte (last n) ≡ true = glyph_plain (n % 16) (omega arith) in
    let more = and_from (is_name_byte (last n)) (list_all is_name_byte acc) here h in
    elim (cases_Bool (n / 16 == 0)) [
      | inl is ↦ rw is more
      | inr is ↦ rw is (onto_plain k (n / 16) (last n ∷ acc) more)
    ]

pub hex_plain : (n : ℕ) → list_all is_name_byte (digits 16 false n) ≡ true
unfolding digits
hex_plain n = onto_plain 64 n [] refl

pub hex_quoted : (n : ℕ) → quoted (digits 16 false n) ≡ 34 ∷ (digits 16 false n ++ 34 ∷ [])
hex_quoted n = quoted-plain (digits 16 false n) (hex_plain n)

-- they tell the number
pub hex_told : (n : ℕ) → n < 2 ^ right_bits → digits_value 16 (digits 16 false n) ≡ n
hex_told n h = (digits_is_IsNumeral 16 false (omega arith) (omega arith) n (fits n h)).1
