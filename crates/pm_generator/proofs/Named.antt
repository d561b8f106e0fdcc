-- A letter and a number make a name.
use Rattle.std.proofs.Common.{◌≡◌, ◌<◌, ◌≤◌, ◌+◌, ◌%◌, ◌^◌, ◌∷◌, [], ℕ, true, length, decimal, IsTrue, arith, rules}
use Rattle.std.specs.List.{list_all}
use Rattle.std.proofs.lemmas.List.Folds.{list_all-append}
use Rattle.std.proofs.lemmas.Fmt.{decimal_by_steps, length-decimal-le}
use Rattle.pm_model.specs.Name.{is_name, is_name_byte}

short : (n : ℕ) → n < 2 ^ 8 → length (decimal n) ≤ 3
short n small = length-decimal-le 3 n (omega arith) (omega arith) (omega arith)

is_digit : (n : ℕ) → n < 10 → is_name_byte (48 + n) ≡ true
is_digit n small = grind arith

is_letter : (n : ℕ) → 97 ≤ n → n ≤ 122 → is_name_byte n ≡ true
is_letter n low high = grind arith

digits_named : (n : ℕ) → n < 2 ^ 64 → list_all is_name_byte (decimal n) ≡ true
digits_named n small = decimal_by_steps (λ n ds. list_all is_name_byte ds ≡ true)
    (λ n h. search (rules, is_digit n h))
    (λ n ds h e. search (rules, list_all-append is_name_byte ds ((48 + n % 10) ∷ []), is_digit (n % 10)))
    n small

pub numbered_is_name : (letter n : ℕ) → 97 ≤ letter → letter ≤ 122 → n < 2 ^ 8 → IsTrue (is_name (letter ∷ decimal n))
numbered_is_name letter n low high small =
    let first : is_name_byte letter ≡ true = is_letter letter low high in
    let named : list_all is_name_byte (decimal n) ≡ true = digits_named n (omega arith) in
    let few : length (decimal n) ≤ 3 = short n small in
    search (rules, first, named, few)
