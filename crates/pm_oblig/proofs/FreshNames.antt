-- A fresh name has the form of a name.
use Rattle.std.proofs.Common.{◌≡◌, ◌<◌, ◌≤◌, ◌+◌, ◌%◌, ◌^◌, ◌∷◌, [], ℕ, true, length, decimal, IsTrue, arith, rules}
use Rattle.std.specs.List.{list_all}
use Rattle.std.proofs.lemmas.List.{length-append}
use Rattle.std.proofs.lemmas.List.Folds.{list_all-append}
use Rattle.std.proofs.lemmas.Fmt.{decimal_by_steps, length-decimal-le}
use Rattle.pm_model.specs.Name.{is_name, is_name_byte}
use Rattle.pm_model.specs.Responses.{fresh_name}
use Rattle.pm_model.specs.declared.obligations.Place.{Place}

pub decimal_short : (n : ℕ) → n < 2 ^ 64 → length (decimal n) ≤ 20
decimal_short n small = length-decimal-le 20 n (omega arith) (omega arith) small

is_digit : (n : ℕ) → n < 10 → is_name_byte (48 + n) ≡ true
is_digit n small = grind arith

digits_named : (n : ℕ) → n < 2 ^ 64 → list_all is_name_byte (decimal n) ≡ true
digits_named n small = decimal_by_steps (λ n ds. list_all is_name_byte ds ≡ true)
    (λ n h. search (rules, is_digit n h))
    (λ n ds h e. search (rules, list_all-append is_name_byte ds ((48 + n % 10) ∷ []), is_digit (n % 10)))
    n small

-- with at most 20 digits in each of its three numbers
pub fresh_is_name : (place : Place) (version : ℕ) → place.obligation < 2 ^ 32 → place.action < 2 ^ 32 → version < 2 ^ 64
    → IsTrue (is_name (fresh_name place version))
fresh_is_name place version o a v =
    let few : place.obligation < 2 ^ 64 = omega arith in
    let small : place.action < 2 ^ 64 = omega arith in
    let named : list_all is_name_byte (fresh_name place version) ≡ true =
    search (rules, list_all-append, digits_named version v, digits_named place.obligation few, digits_named place.action small) in
    let short : length (fresh_name place version) ≤ 64 =
    search (rules, length-append, decimal_short version v, decimal_short place.obligation few, decimal_short place.action small) in
    search (rules, named, short)
