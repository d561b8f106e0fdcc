-- Words that are numbers.
use Rattle.std.proofs.Common.{◌≡◌, ◌<◌, ℕ, Bool, true, false, List, Option, None, Some, Result, Ok, Err, arith}
use Rattle.std.specs.Prelude.{◌↔◌, decimal}
use Rattle.std.specs.Str.{bytes_eq}
use Rattle.std.specs.Str.Parse.{ParsesUnsigned}
use Rattle.std.specs.Cmp.Lexicographic.{same_text}
use Rattle.std.proofs.lemmas.Bool.Decides.{not_from_Decides}
use Rattle.std.proofs.lemmas.Fmt.{parse-decimal}
use Rattle.std.proofs.lemmas.Slice.Eq.{bytes_eq-Decides}

-- what is read of a word is its number
abbrev pub IsRead : List ℕ → Option ℕ → Type 0
IsRead word read = (n : ℕ) → (read ≡ Some n) ↔ ((word ≡ decimal n) × (n < 65536))

reads : {E : Type 0} (n : ℕ) (word : List ℕ) (parsed : Result ℕ E) → n < 65536 → word ≡ decimal n → ParsesUnsigned 16 10 word parsed → parsed ≡ Ok n
reads n word parsed small is parses = parse-decimal 16 n word parsed small (omega arith) is parses

-- one that can't be parsed is none
pub unread : {E : Type 0} {word : List ℕ} {parsed : Result ℕ E} {e : E} → ParsesUnsigned 16 10 word parsed → parsed ≡ Err e → IsRead word None
unread {word = word} {parsed = parsed} parses fails n = ((λ some. grind (arith, some)), (λ is. grind (arith, reads n word parsed is.1 is.0 parses, fails)))

-- nor is one that is parsed as a number whose digits are others
pub other : {E : Type 0} {word text : List ℕ} {parsed : Result ℕ E} {m : ℕ} {test : Bool} → ParsesUnsigned 16 10 word parsed → parsed ≡ Ok m
    → text ≡ decimal m → test ≡ bytes_eq text word → test ≡ false → IsRead word None
other {word = word} {text = text} {parsed = parsed} {m = m} {test = test} parses fits written tested apart n = (
  (λ some. grind (arith, some)),
  (λ is. absurd (not_from_Decides {P = text ≡ word} test (rw tested (bytes_eq-Decides text word)) apart
      (grind (arith, reads n word parsed is.1 is.0 parses, fits, written, is.0)))),
)

pub same : {E : Type 0} {word text : List ℕ} {parsed : Result ℕ E} {m : ℕ} {test : Bool} → ParsesUnsigned 16 10 word parsed → parsed ≡ Ok m → m < 65536
    → text ≡ decimal m → test ≡ bytes_eq text word → test ≡ true → IsRead word (Some m)
same {word = word} {text = text} {parsed = parsed} {m = m} {test = test} parses fits small written tested alike n = (
  (λ some. grind (arith, some, written, same_text text word (grind (arith, tested, alike)), small)),
  (λ is. grind (arith, reads n word parsed is.1 is.0 parses, fits)),
)
