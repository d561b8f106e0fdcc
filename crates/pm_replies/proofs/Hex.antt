-- A set of rights by its digits.
use Rattle.std.proofs.Common.{◌≡◌, ◌≢◌, ◌<◌, ◌≤◌, ◌^◌, ℕ, List, [], ◌∷◌, ◌&&◌, true, false, Some, None, length, nat_lt, lt-ltb, ltb-true, refl, ap, ◌∙◌, arith, inl, inr}
use Rattle.std.proofs.lemmas.Bool.{and_parts, and_from, cases_Bool}
use Rattle.std.proofs.lemmas.Fmt.{digits_is_IsNumeral}
use Rattle.std.proofs.lemmas.Str.Parse.{without_leading_plus_none}
use Rattle.std.specs.Char.{digit_value}
use Rattle.std.specs.Fmt.{digits}
use Rattle.std.specs.List.{list_all}
use Rattle.std.specs.Prelude.{get_or}
use Rattle.std.specs.Str.Parse.{AllDigits, IsNumeral, digits_value, without_leading_plus}
use Rattle.pm_model.specs.Name.{is_name_byte}
use Rattle.pm_model.specs.RightSet.{right_bits}
use Rattle.pm_print.proofs.Hex.{hex_plain}
use Rattle.pm_replies.specs.Replied.{if_set, is_hex}
use lib.Dec.{lit≤}

each_digit : (ds : List ℕ) → AllDigits 16 ds → list_all (λ c. nat_lt (digit_value c) 16) ds ≡ true
each_digit [] h = refl
each_digit (c ∷ cs) h = and_from (nat_lt (digit_value c) 16) (list_all (λ c. nat_lt (digit_value c) 16) cs) (lt-ltb (digit_value c) 16 h.0) (each_digit cs h.1)

all_digits : (ds : List ℕ) → list_all (λ c. nat_lt (digit_value c) 16) ds ≡ true → AllDigits 16 ds
all_digits [] h = tt
all_digits (c ∷ cs) h =
    let p = and_parts (nat_lt (digit_value c) 16) (list_all (λ c. nat_lt (digit_value c) 16) cs) h in
    (ltb-true (digit_value c) 16 p.0, all_digits cs p.1)

numeral_yes : (ds : List ℕ) → IsNumeral 16 ds → is_hex ds ≡ true
numeral_yes ds h = and_from (nat_lt 0 (length ds)) (list_all (λ c. nat_lt (digit_value c) 16) ds) (lt-ltb 0 (length ds) h.0) (each_digit ds h.1)

numeral_no : (ds : List ℕ) → is_hex ds ≡ true → IsNumeral 16 ds
numeral_no ds h =
    let p = and_parts (nat_lt 0 (length ds)) (list_all (λ c. nat_lt (digit_value c) 16) ds) h in
    (ltb-true 0 (length ds) p.0, all_digits ds p.1)

-- where the digits are a number of so many bits, that is the set
pub set_there : (ds : List ℕ) → IsNumeral 16 ds → digits_value 16 ds < 2 ^ right_bits → if_set ds ≡ Some (digits_value 16 ds)
set_there ds numeral fits =
    let yes = and_from (is_hex ds) (nat_lt (digits_value 16 ds) (2 ^ right_bits)) (numeral_yes ds numeral) (lt-ltb (digits_value 16 ds) (2 ^ right_bits) fits) in
    rw yes refl

-- else there is none
pub set_none : (ds : List ℕ) → ¬ (IsNumeral 16 ds × (digits_value 16 ds < 2 ^ right_bits)) → if_set ds ≡ None
set_none ds never = elim (cases_Bool (is_hex ds && nat_lt (digits_value 16 ds) (2 ^ right_bits))) [
  | inl there ↦ let p = and_parts (is_hex ds) (nat_lt (digits_value 16 ds) (2 ^ right_bits)) there in absurd (never (numeral_no ds p.0, ltb-true (digits_value 16 ds) (2 ^ right_bits) p.1))
  | inr none ↦ rw none refl
]

-- no plus stands before what may stand in a name
no_plus : (s : List ℕ) → list_all is_name_byte s ≡ true → get_or s 0 0 ≢ 43
no_plus [] h e = absurd (omega (arith, e))
no_plus (c ∷ cs) h e =
    let p = (and_parts (is_name_byte c) (list_all is_name_byte cs) h).0 in
    let other : false ≡ true = rw e at p in cc

-- the digits of a set tell it
pub set_told : (n : ℕ) → n < 2 ^ right_bits → if_set (without_leading_plus (digits 16 false n)) ≡ Some n
set_told n h =
    let wide : 2 ^ right_bits ≤ 16 ^ 64 = lit≤ tt in
    let r = digits_is_IsNumeral 16 false (omega arith) (omega arith) n (omega (arith, wide, h)) in
    let plain = without_leading_plus_none (digits 16 false n) (no_plus (digits 16 false n) (hex_plain n)) in
    let fits : digits_value 16 (digits 16 false n) < 2 ^ right_bits = rw r.1 h in
    ap if_set plain ∙ (set_there (digits 16 false n) r.0 fits ∙ ap Some r.1)
