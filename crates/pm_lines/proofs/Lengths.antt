-- A text has at least as many bytes as the value that it reads as.
use Rattle.std.proofs.Common.{◌≡◌, ◌≤◌, ◌<◌, ◌^◌, ◌+◌, ◌-◌, ℕ, zero, suc, List, [], ◌∷◌, ◌++◌, Bool, true, false, not, cond, ◌&&◌, ◌==◌, nat_lt, nat_le, max, take, drop, length, decimal, Option, None, Some, IfSome, option_and_then, option_map, if◌then◌else◌, refl, sym, ap, subst, ◌∙◌, arith, ltb-true, inl, inr, append-nil}
use Rattle.std.proofs.lemmas.Bool.{and_parts, cases_Bool, eqb-true, false≢true}
use Rattle.std.proofs.lemmas.Fmt.{length-decimal-le}
use Rattle.std.proofs.lemmas.Int.Digits.{digits_value-lt}
use Rattle.std.proofs.lemmas.List.{length-append}
use Rattle.std.proofs.lemmas.Map.Text.{is_eq-slice_cmp}
use Rattle.std.proofs.lemmas.Slice.Eq.{bytes_eq-Decides}
use Rattle.std.proofs.lemmas.List.Folds.{length-prefix_len}
use Rattle.std.specs.Prelude.{⊤, slice_index}
use Rattle.std.specs.Char.{digit_value, encode_utf8, is_ascii_digit, is_digit}
use Rattle.std.specs.Cmp.Lexicographic.{slice_cmp}
use Rattle.std.specs.Float.{binary64, float_is_finite}
use Rattle.std.specs.List.{prefix_len}
use Rattle.std.specs.Ordering.{is_eq, nat_cmp, match_ordering}
use Rattle.std.specs.Str.Parse.{AllDigits, digits_value}
use Rattle.std.specs.declared.cmp.Ordering.{Ordering}
use Rattle.std.specs.declared.cmp.Ordering.TheVariants.{Less, Equal, Greater}
use Rattle.fast_float.specs.Text.{minus, Parts, scan, digits_of, nearest, with_sign}
use Rattle.json.specs.Text.{code_unit, short_escape, is_high_surrogate, is_low_surrogate, surrogate_pair, Within, plain, after_backslash, after_u, after_high, prepend, content}
use Rattle.json.specs.Token.{Token, begin_object, end_object, begin_array, end_array, key, bad}
use Rattle.json.specs.Token as token
use Rattle.json.specs.Word.{head, ends_word, is_operator, is_space, after_number, number_before, word}
use Rattle.json.specs.Lex.{Lexeme, comma, colon, Class, quote, backslash, operator, space, other, class, operator_lexeme, string_token, Mode, between, in_word, in_string, in_escape, lex_byte, lex, Place, fresh, after_value, after_comma, after_key, begins_colon, may_begin, may_close, if_allowed, place_token, punctuate, tokens}
use Rattle.json.specs.Lex as lexeme
use Rattle.json.specs.Json.{Parse, parse_map, after_end_array, read_key, items_step, members_step, items, members, value_with, value, if_last}
use Rattle.json.specs.Json as json
use Rattle.json.proofs.Grammar.{closed_array, read_key_is}
use Rattle.serde_json.specs.Data.{Num, unsigned, negative, float, Data, null, boolean, number, string, array, object, Items, no_items, item, Members, no_members, member, put}
use Rattle.serde_json.specs.Read.{is_integer, float_of, number_from, number_of, max_depth, of_items, of_json, of_members, read}

-- ---- what a value takes: its strings without escapes, its whole numbers in decimal, and neither its other numbers nor its literals

abbrev pub number_size : Num → ℕ
number_size (unsigned n) = length (decimal n)
number_size (negative z) = 0
number_size (float x) = 0

abbrev mutual
  pub size : Data → ℕ
  size null = 0
  size (boolean b) = 0
  size (number n) = number_size n
  size (string s) = length s + 2
  size (array ds) = 1 + max 1 (items_size ds)
  size (object ms) = 1 + max 1 (members_size ms)

  -- each with the comma or the bracket behind it
  pub items_size : Items → ℕ
  items_size no_items = 0
  items_size (item d ds) = size d + 1 + items_size ds

  pub members_size : Members → ℕ
  members_size no_members = 0
  members_size (member k d ms) = length k + 4 + size d + members_size ms

-- ---- lexemes: a string is its content and two quotes, a number the digits that it begins with

abbrev token_size : Token → ℕ
token_size begin_object = 1
token_size end_object = 1
token_size begin_array = 1
token_size end_array = 1
token_size (key s) = length s + 3
token_size (token.string s) = length s + 2
token_size (token.number s) = prefix_len is_ascii_digit s
token_size (token.boolean b) = 0
token_size token.null = 0
token_size bad = 0

abbrev lexeme_size : Lexeme → ℕ
lexeme_size (lexeme.token t) = token_size t
lexeme_size comma = 1
lexeme_size colon = 1

abbrev lexemes_size : List Lexeme → ℕ
lexemes_size [] = 0
lexemes_size (l ∷ ls) = lexeme_size l + lexemes_size ls

abbrev mode : Within → Mode
mode plain = in_string
mode after_backslash = in_escape
mode after_u = in_string
mode (after_high h) = in_string

-- so many bytes have room for the rest of a string, its quote and so much behind it
abbrev Room : ℕ → ℕ → Option (List ℕ) → Type 0
Room n m None = ⊤
Room n m (Some s) = length s + 1 + m ≤ n

both : (n m : ℕ) (b : Bool) (x y : Option (List ℕ)) → (b ≡ true → Room n m x) → (b ≡ false → Room n m y) → Room n m (cond b x y)
both n m true x y f g = f refl
both n m false x y f g = g refl

found : (n m : ℕ) (f : ℕ → Option (List ℕ)) (o : Option ℕ) → ((u : ℕ) → o ≡ Some u → Room n m (f u)) → Room n m (option_and_then f o)
found n m f None h = tt
found n m f (Some u) h = h u refl

more : (n m k l : ℕ) (r : Option (List ℕ)) → Room k l r → k + m ≤ n + l → Room n m r
more n m k l None h le = tt
more n m k l (Some s) h le = omega arith

longer : (n m k l : ℕ) (a : List ℕ) (r : Option (List ℕ)) → Room k l r → length a + k + m ≤ n + l → Room n m (prepend a r)
longer n m k l a None h le = tt
longer n m k l a (Some s) h le = omega (arith, length-append a s)

length-encode : (u : ℕ) → length (encode_utf8 u) ≤ 4
unfolding encode_utf8
length-encode u = grind arith

passes : (o s : Bool) (x : ℕ) (xs : List ℕ) (k : Mode → List Lexeme) → lex_byte in_string (cond o operator (cond s space other)) x xs k ≡ k in_string
passes true s x xs k = refl
passes false true x xs k = refl
passes false false x xs k = refl

lex_plain : (x : ℕ) (xs : List ℕ) → (x == 34) ≡ false → (x == 92) ≡ false → lex in_string (x ∷ xs) ≡ lex in_string xs
unfolding lex
lex_plain x xs q b =
    (λ i. lex_byte in_string (cond (q i) quote (cond (b i) backslash (cond (is_operator x) operator (cond (is_space x) space other)))) x xs (λ n. lex n xs)) ∙ passes (is_operator x) (is_space x) x xs (λ n. lex n xs)

lex_backslash : (x : ℕ) (xs : List ℕ) → (x == 92) ≡ true → lex in_string (x ∷ xs) ≡ lex in_escape xs
unfolding lex
lex_backslash x xs b = ap (λ y. lex in_string (y ∷ xs)) (eqb-true x 92 b)

lex_quote : (x : ℕ) (xs : List ℕ) → (x == 34) ≡ true → lex in_string (x ∷ xs) ≡ lex between xs
unfolding lex
lex_quote x xs b = ap (λ y. lex in_string (y ∷ xs)) (eqb-true x 34 b)

lex_escape : (x : ℕ) (xs : List ℕ) → lex in_escape (x ∷ xs) ≡ lex in_string xs
unfolding lex
lex_escape x xs = refl

not_this : (c x : ℕ) (t : Bool) → (t ≡ true → x ≡ c) → is_digit c 16 ≡ false → is_digit x 16 ≡ true → t ≡ false
not_this c x false e never h = refl
not_this c x true e never h = absurd (false≢true (sym never ∙ ap (λ y. is_digit y 16) (sym (e refl)) ∙ h))

lex_hex : (x : ℕ) (xs : List ℕ) → is_digit x 16 ≡ true → lex in_string (x ∷ xs) ≡ lex in_string xs
lex_hex x xs h = lex_plain x xs (not_this 34 x (x == 34) (eqb-true x 34) refl h) (not_this 92 x (x == 92) (eqb-true x 92) refl h)

all_hex : (b : Bool) (u w : ℕ) → cond b (Some w) None ≡ Some u → b ≡ true
all_hex true u w h = refl
all_hex false u w h = absurd cc

lex_unit : (a b c d u : ℕ) (xs : List ℕ) → code_unit a b c d ≡ Some u → lex in_string (a ∷ b ∷ c ∷ d ∷ xs) ≡ lex in_string xs
unfolding code_unit
lex_unit a b c d u xs h =
    let p = and_parts (is_digit a 16 && is_digit b 16 && is_digit c 16) (is_digit d 16) (all_hex _ u _ h) in
    let q = and_parts (is_digit a 16 && is_digit b 16) (is_digit c 16) p.0 in
    let r = and_parts (is_digit a 16) (is_digit b 16) q.0 in
    lex_hex a (b ∷ c ∷ d ∷ xs) r.0 ∙ lex_hex b (c ∷ d ∷ xs) r.1 ∙ lex_hex c (d ∷ xs) q.1 ∙ lex_hex d xs p.1

-- ---- words

digits_of_front : (n : ℕ) (t : List ℕ) → prefix_len is_ascii_digit (take n t) ≤ prefix_len is_ascii_digit t
digits_of_front zero t = omega arith
digits_of_front (suc n) [] = omega arith
digits_of_front (suc n) (x ∷ t) = elim (cases_Bool (is_ascii_digit x)) [
  | inl digit ↦ let rest = digits_of_front n t in rw digit (omega (arith, rest))
  | inr none ↦ rw none (omega arith)
]

either : (n : ℕ) (b : Bool) (t u : Token) → token_size t ≤ n → token_size u ≤ n → token_size (cond b t u) ≤ n
either n true t u h g = h
either n false t u h g = g

cut_size : (t : List ℕ) (o : Option (List ℕ)) → token_size (number_before t o) ≤ prefix_len is_ascii_digit t
cut_size t None = omega arith
cut_size t (Some rest) = either _ (ends_word rest) (token.number (take (length t - length rest) t)) bad (digits_of_front (length t - length rest) t) (omega arith)

word_size : (t : List ℕ) → token_size (word t) ≤ prefix_len is_ascii_digit t
unfolding word
word_size t =
    let n = prefix_len is_ascii_digit t in
    either n (head t == 116) _ _ (either n _ (token.boolean true) bad (omega arith) (omega arith))
    (either n (head t == 102) _ _ (either n _ (token.boolean false) bad (omega arith) (omega arith))
    (either n (head t == 110) _ _ (either n _ token.null bad (omega arith) (omega arith)) (cut_size t (after_number t))))

word_passes : (q b : Bool) (x : ℕ) (xs : List ℕ) (k : Mode → List Lexeme) → lex_byte in_word (cond q quote (cond b backslash other)) x xs k ≡ k in_word
word_passes true b x xs k = refl
word_passes false true x xs k = refl
word_passes false false x xs k = refl

no_digit : (c x : ℕ) (t : Bool) → (t ≡ true → x ≡ c) → is_ascii_digit c ≡ false → is_ascii_digit x ≡ true → t ≡ false
no_digit c x false e never h = refl
no_digit c x true e never h = absurd (false≢true (sym never ∙ ap is_ascii_digit (sym (e refl)) ∙ h))

lex_digit : (x : ℕ) (xs : List ℕ) → is_ascii_digit x ≡ true → lex in_word (x ∷ xs) ≡ lex in_word xs
unfolding lex
lex_digit x xs h =
    let no = λ (c : ℕ) (never : is_ascii_digit c ≡ false). no_digit c x (x == c) (eqb-true x c) never h in
    let operators : is_operator x ≡ false = rw (no 123 refl, no 125 refl, no 91 refl, no 93 refl, no 58 refl, no 44 refl) refl in
    let spaces : is_space x ≡ false = rw (no 32 refl, no 9 refl, no 10 refl, no 13 refl) refl in
    (λ i. lex_byte in_word (cond (x == 34) quote (cond (x == 92) backslash (cond (operators i) operator (cond (spaces i) space other)))) x xs (λ n. lex n xs))
    ∙ word_passes (x == 34) (x == 92) x xs (λ n. lex n xs)

-- ---- the bytes hold the lexemes

operator_size : (x : ℕ) → lexeme_size (operator_lexeme x) ≤ 1
operator_size x = choose (x == 123) _ _ (omega arith) (choose (x == 125) _ _ (omega arith) (choose (x == 91) _ _ (omega arith) (choose (x == 93) _ _ (omega arith) (choose (x == 44) comma colon (omega arith) (omega arith)))))
  where
    choose : (b : Bool) (l m : Lexeme) → lexeme_size l ≤ 1 → lexeme_size m ≤ 1 → lexeme_size (cond b l m) ≤ 1
    choose true l m h g = h
    choose false l m h g = g

string_size : (n m : ℕ) (o : Option (List ℕ)) → m ≤ n → Room n m o → token_size (string_token o) + m ≤ suc n
string_size n m None h g = omega arith
string_size n m (Some s) h g = omega arith

byte_size : (m : Mode) (c : Class) (x : ℕ) (xs : List ℕ) (k : Mode → List Lexeme) → ((q : Mode) → lexemes_size (k q) ≤ length xs)
    → Room (length xs) (lexemes_size (k in_string)) (content plain xs) → token_size (word (x ∷ xs)) + lexemes_size (k in_word) ≤ suc (length xs)
    → lexemes_size (lex_byte m c x xs k) ≤ suc (length xs)
byte_size between quote x xs k h room w = string_size (length xs) (lexemes_size (k in_string)) (content plain xs) (h in_string) room
byte_size between backslash x xs k h room w = let rest = h in_word in omega (arith, rest)
byte_size between operator x xs k h room w = let rest = h between in let one = operator_size x in omega (arith, rest, one)
byte_size between space x xs k h room w = let rest = h between in omega (arith, rest)
byte_size between other x xs k h room w = w
byte_size in_word quote x xs k h room w = let rest = h in_word in omega (arith, rest)
byte_size in_word backslash x xs k h room w = let rest = h in_word in omega (arith, rest)
byte_size in_word operator x xs k h room w = let rest = h between in let one = operator_size x in omega (arith, rest, one)
byte_size in_word space x xs k h room w = let rest = h between in omega (arith, rest)
byte_size in_word other x xs k h room w = let rest = h in_word in omega (arith, rest)
byte_size in_string quote x xs k h room w = let rest = h between in omega (arith, rest)
byte_size in_string backslash x xs k h room w = let rest = h in_escape in omega (arith, rest)
byte_size in_string operator x xs k h room w = let rest = h in_string in omega (arith, rest)
byte_size in_string space x xs k h room w = let rest = h in_string in omega (arith, rest)
byte_size in_string other x xs k h room w = let rest = h in_string in omega (arith, rest)
byte_size in_escape c x xs k h room w = let rest = h in_string in omega (arith, rest)

word_and : (b : Bool) (w p l n : ℕ) → w ≤ cond b (1 + p) 0 → p + l ≤ n → l ≤ n → w + l ≤ suc n
word_and true w p l n h g k = omega arith
word_and false w p l n h g k = omega arith

mutual
  unfolding lex content

  lexed : (xs : List ℕ) (m : Mode) → lexemes_size (lex m xs) ≤ length xs
  lexed [] m = omega arith
  lexed (x ∷ xs) m =
      byte_size m (class x) x xs (λ n. lex n xs) (lexed xs) (string_room xs plain)
      (word_and (is_ascii_digit x) _ (prefix_len is_ascii_digit xs) _ (length xs) (word_size (x ∷ xs)) (word_room xs) (lexed xs in_word))

  word_room : (xs : List ℕ) → prefix_len is_ascii_digit xs + lexemes_size (lex in_word xs) ≤ length xs
  word_room [] = omega arith
  word_room (x ∷ xs) = elim (cases_Bool (is_ascii_digit x)) [
    | inl digit ↦ let rest = word_room xs in let same = ap lexemes_size (lex_digit x xs digit) in rw digit (omega (arith, rest, same))
    | inr none ↦
        let whole : lexemes_size (lex in_word (x ∷ xs)) ≤ suc (length xs) =
        byte_size in_word (class x) x xs (λ n. lex n xs) (lexed xs) (string_room xs plain)
        (word_and (is_ascii_digit x) _ (prefix_len is_ascii_digit xs) _ (length xs) (word_size (x ∷ xs)) (word_room xs) (lexed xs in_word)) in
        rw none (omega (arith, whole))
  ]

  string_room : (xs : List ℕ) (w : Within) → Room (length xs) (lexemes_size (lex (mode w) xs)) (content w xs)
  string_room [] plain = tt
  string_room (x ∷ xs) plain =
      let n = suc (length xs) in
      let m = lexemes_size (lex in_string (x ∷ xs)) in
      both n m (x == 34) _ _ (λ q. let rest = lexed xs between in let same = ap lexemes_size (lex_quote x xs q) in omega (arith, rest, same))
      (λ q. both n m (x == 92) _ _ (λ b. let same = ap lexemes_size (lex_backslash x xs b) in more n m _ _ _ (string_room xs after_backslash) (omega (arith, same)))
      (λ b. both n m (nat_lt x 32) _ _ (λ l. tt) (λ l. let same = ap lexemes_size (lex_plain x xs q b) in longer n m _ _ (x ∷ []) _ (string_room xs plain) (omega (arith, same)))))
  string_room [] after_backslash = tt
  string_room (x ∷ xs) after_backslash =
      let n = suc (length xs) in
      let m = lexemes_size (lex in_escape (x ∷ xs)) in
      let same = ap lexemes_size (lex_escape x xs) in
      both n m (x == 117) _ _ (λ u. more n m _ _ _ (string_room xs after_u) (omega (arith, same)))
      (λ u. found n m _ (short_escape x) (λ c e. longer n m _ _ (c ∷ []) _ (string_room xs plain) (omega (arith, same))))
  string_room [] after_u = tt
  string_room (a ∷ []) after_u = tt
  string_room (a ∷ b ∷ []) after_u = tt
  string_room (a ∷ b ∷ c ∷ []) after_u = tt
  string_room (a ∷ b ∷ c ∷ d ∷ xs) after_u =
      let n = length (a ∷ b ∷ c ∷ d ∷ xs) in
      let m = lexemes_size (lex in_string (a ∷ b ∷ c ∷ d ∷ xs)) in
      found n m _ (code_unit a b c d) (λ u e.
      let same = ap lexemes_size (lex_unit a b c d u xs e) in
      both n m (is_high_surrogate u) _ _ (λ h. more n m _ _ _ (string_room xs (after_high u)) (omega (arith, same)))
      (λ h. both n m (is_low_surrogate u) _ _ (λ l. tt) (λ l. longer n m _ _ (encode_utf8 u) _ (string_room xs plain) (omega (arith, same, length-encode u)))))
  string_room [] (after_high h) = tt
  string_room (s ∷ []) (after_high h) = tt
  string_room (s ∷ u ∷ []) (after_high h) = tt
  string_room (s ∷ u ∷ a ∷ []) (after_high h) = tt
  string_room (s ∷ u ∷ a ∷ b ∷ []) (after_high h) = tt
  string_room (s ∷ u ∷ a ∷ b ∷ c ∷ []) (after_high h) = tt
  string_room (s ∷ u ∷ a ∷ b ∷ c ∷ d ∷ xs) (after_high h) =
      let n = length (s ∷ u ∷ a ∷ b ∷ c ∷ d ∷ xs) in
      let m = lexemes_size (lex in_string (s ∷ u ∷ a ∷ b ∷ c ∷ d ∷ xs)) in
      both n m ((s == 92) && (u == 117)) _ _ (λ e. found n m _ (code_unit a b c d) (λ l f. both n m (is_low_surrogate l) _ _
      (λ y.
      let same = ap lexemes_size (lex_backslash s (u ∷ a ∷ b ∷ c ∷ d ∷ xs) (and_parts _ _ e).0 ∙ lex_escape u (a ∷ b ∷ c ∷ d ∷ xs) ∙ lex_unit a b c d l xs f) in
      longer n m _ _ (encode_utf8 (surrogate_pair h l)) _ (string_room xs plain) (omega (arith, same, length-encode (surrogate_pair h l)))) (λ y. tt))) (λ e. tt)

-- ---- tokens, each with the comma before it; a comma stands before each but a closing bracket, after a value

abbrev mark : Token → ℕ
mark begin_object = 1
mark end_object = 0
mark begin_array = 1
mark end_array = 0
mark (key s) = 1
mark (token.string s) = 1
mark (token.number s) = 1
mark (token.boolean b) = 1
mark token.null = 1
mark bad = 0

abbrev comma_size : Bool → Token → ℕ
comma_size false t = 0
comma_size true t = mark t

abbrev is_end : Token → Bool
is_end begin_object = false
is_end end_object = true
is_end begin_array = false
is_end end_array = true
is_end (key s) = false
is_end (token.string s) = true
is_end (token.number s) = true
is_end (token.boolean b) = true
is_end token.null = true
is_end bad = true

abbrev tokens_size : Bool → List Token → ℕ
tokens_size later [] = 0
tokens_size later (t ∷ ts) = comma_size later t + token_size t + tokens_size (is_end t) ts

-- whether a value has ended there, and the comma that was passed
abbrev is_later : Place → Bool
is_later fresh = false
is_later after_value = true
is_later after_comma = true
is_later after_key = false

abbrev passed : Place → ℕ
passed fresh = 0
passed after_value = 0
passed after_comma = 1
passed after_key = 0

begun : (p : Place) (t : Token) (k : Place → List Token) (next : Place) (n : ℕ) → mark t ≤ 1 → token_size t + tokens_size (is_end t) (k next) ≤ n
    → tokens_size (is_later p) (if_allowed (may_begin p) t k next) ≤ n + passed p
begun fresh t k next n one h = omega arith
begun after_value t k next n one h = omega arith
begun after_comma t k next n one h = omega arith
begun after_key t k next n one h = omega arith

closed : (p : Place) (t : Token) (k : Place → List Token) (next : Place) (n : ℕ) → mark t ≡ 0 → token_size t + tokens_size (is_end t) (k next) ≤ n
    → tokens_size (is_later p) (if_allowed (may_close p) t k next) ≤ n + passed p
closed fresh t k next n none h = omega arith
closed after_value t k next n none h = omega arith
closed after_comma t k next n none h = omega arith
closed after_key t k next n none h = omega arith

fault : (p : Place) (n : ℕ) → tokens_size (is_later p) (bad ∷ []) ≤ n
fault fresh n = omega arith
fault after_value n = omega arith
fault after_comma n = omega arith
fault after_key n = omega arith

placed : (p : Place) (t : Token) (named : Bool) (k : Place → List Token) (n : ℕ) → ((q : Place) → tokens_size (is_later q) (k q) ≤ n + passed q)
    → (named ≡ true → 1 + tokens_size false (k after_key) ≤ n) → tokens_size (is_later p) (place_token p t named k) ≤ token_size t + n + passed p
placed p begin_object named k n h g = let rest = h fresh in begun p begin_object k fresh (1 + n) (omega arith) (omega (arith, rest))
placed p end_object named k n h g = let rest = h after_value in closed p end_object k after_value (1 + n) refl (omega (arith, rest))
placed p begin_array named k n h g = let rest = h fresh in begun p begin_array k fresh (1 + n) (omega arith) (omega (arith, rest))
placed p end_array named k n h g = let rest = h after_value in closed p end_array k after_value (1 + n) refl (omega (arith, rest))
placed p (key s) named k n h g = fault p _
placed p (token.string s) true k n h g = let rest = g refl in begun p (key s) k after_key (length s + 2 + n) (omega arith) (omega (arith, rest))
placed p (token.string s) false k n h g = let rest = h after_value in begun p (token.string s) k after_value (length s + 2 + n) (omega arith) (omega (arith, rest))
placed p (token.number s) named k n h g = let rest = h after_value in begun p (token.number s) k after_value (prefix_len is_ascii_digit s + n) (omega arith) (omega (arith, rest))
placed p (token.boolean b) named k n h g = let rest = h after_value in let done = begun p (token.boolean b) k after_value n (omega arith) (omega (arith, rest)) in omega (arith, done)
placed p token.null named k n h g = let rest = h after_value in let done = begun p token.null k after_value n (omega arith) (omega (arith, rest)) in omega (arith, done)
placed p bad named k n h g = fault p _

mutual
  unfolding punctuate

  punctuated : (ls : List Lexeme) (p : Place) → tokens_size (is_later p) (punctuate p ls) ≤ lexemes_size ls + passed p
  punctuated [] fresh = omega arith
  punctuated [] after_value = omega arith
  punctuated [] after_comma = omega arith
  punctuated [] after_key = omega arith
  punctuated (lexeme.token t ∷ ls) fresh = placed fresh t (begins_colon ls) (λ q. punctuate q ls) (lexemes_size ls) (punctuated ls) (named ls)
  punctuated (lexeme.token t ∷ ls) after_value = placed after_value t (begins_colon ls) (λ q. punctuate q ls) (lexemes_size ls) (punctuated ls) (named ls)
  punctuated (lexeme.token t ∷ ls) after_comma = placed after_comma t (begins_colon ls) (λ q. punctuate q ls) (lexemes_size ls) (punctuated ls) (named ls)
  punctuated (lexeme.token t ∷ ls) after_key = placed after_key t (begins_colon ls) (λ q. punctuate q ls) (lexemes_size ls) (punctuated ls) (named ls)
  punctuated (comma ∷ ls) fresh = omega arith
  punctuated (comma ∷ ls) after_value = let rest = punctuated ls after_comma in omega (arith, rest)
  punctuated (comma ∷ ls) after_comma = omega arith
  punctuated (comma ∷ ls) after_key = omega arith
  punctuated (colon ∷ ls) fresh = omega arith
  punctuated (colon ∷ ls) after_value = omega arith
  punctuated (colon ∷ ls) after_comma = omega arith
  punctuated (colon ∷ ls) after_key = let rest = punctuated ls fresh in omega (arith, rest)

  named : (ls : List Lexeme) → begins_colon ls ≡ true → 1 + tokens_size false (punctuate after_key ls) ≤ lexemes_size ls
  named [] h = absurd (false≢true h)
  named (lexeme.token t ∷ ls) h = absurd (false≢true h)
  named (comma ∷ ls) h = absurd (false≢true h)
  named (colon ∷ ls) h = let rest = punctuated ls fresh in omega (arith, rest)

tokens_fit : (text : List ℕ) → tokens_size false (tokens text) ≤ length text
tokens_fit text = let pieces = punctuated (lex between text) fresh in let bytes = lexed text between in omega (arith, pieces, bytes)

-- ---- the tree of the tokens, each item and member with what stands behind it

abbrev mutual
  json_size : json.Json → ℕ
  json_size json.null = 0
  json_size (json.boolean b) = 0
  json_size (json.number s) = prefix_len is_ascii_digit s
  json_size (json.string s) = length s + 2
  json_size (json.array js) = 1 + max 1 (json_items_size js)
  json_size (json.object ms) = 1 + max 1 (json_members_size ms)

  json_items_size : json.Items → ℕ
  json_items_size json.no_items = 0
  json_items_size (json.item j js) = json_size j + 1 + json_items_size js

  json_members_size : json.Members → ℕ
  json_members_size json.no_members = 0
  json_members_size (json.member k j ms) = length k + 4 + json_size j + json_members_size ms

-- what was taken, and what is left, are within so much
abbrev Took : {A : Type 0} → (A → ℕ) → ℕ → Option (A × List Token) → Type 0
Took f n None = ⊤
Took f n (Some p) = f p.0 + tokens_size true p.1 ≤ n

-- up to the closing bracket, behind the opening one or an item
abbrev closing : Bool → ℕ → ℕ
closing false n = max 1 n
closing true n = 1 + n

abbrev valued : Bool → json.Json → ℕ
valued false j = json_size j
valued true j = 1 + json_size j

abbrev TakesValue : Parse json.Json → Type 0
TakesValue p = (ts : List Token) (later : Bool) → Took (valued later) (tokens_size later ts) (p ts)

abbrev TakesItems : Parse json.Items → Type 0
TakesItems p = (ts : List Token) (later : Bool) → Took (λ js. closing later (json_items_size js)) (tokens_size later ts) (p ts)

abbrev TakesMembers : Parse json.Members → Type 0
TakesMembers p = (ts : List Token) (later : Bool) → Took (λ ms. closing later (json_members_size ms)) (tokens_size later ts) (p ts)

module _ (p : Parse json.Json) (takes : TakesValue p) where
  item_behind : (later : Bool) (j : json.Json) (n m : ℕ) (r : Option (json.Items × List Token)) → valued later j + m ≤ n → Took (λ js. closing true (json_items_size js)) m r
      → Took (λ js. closing later (json_items_size js)) n (parse_map (json.item j) r)
  item_behind later j n m None h g = tt
  item_behind false j n m (Some q) h g = omega arith
  item_behind true j n m (Some q) h g = omega arith

  item_more : (later : Bool) (n : ℕ) (more_items : Parse json.Items) → TakesItems more_items → (o : Option (json.Json × List Token)) → Took (valued later) n o
      → Took (λ js. closing later (json_items_size js)) n (option_and_then (λ q. parse_map (json.item q.0) (more_items q.1)) o)
  item_more later n more_items again None h = tt
  item_more later n more_items again (Some q) h = item_behind later q.0 n _ (more_items q.1) h (again q.1 true)

  items_end : (ts r : List Token) (later : Bool) → ts ≡ end_array ∷ r → closing later 0 + tokens_size true r ≤ tokens_size later ts
  items_end ts r false e = let same = ap (tokens_size false) e in omega (arith, same)
  items_end ts r true e = let same = ap (tokens_size true) e in omega (arith, same)

  item_step : (later : Bool) (ts : List Token) (more_items : Parse json.Items) → TakesItems more_items → (o : Option (List Token)) → after_end_array ts ≡ o
      → Took (λ js. closing later (json_items_size js)) (tokens_size later ts) (items_step p more_items ts o)
  item_step later ts more_items again None e = item_more later (tokens_size later ts) more_items again (p ts) (takes ts later)
  item_step later ts more_items again (Some r) e = items_end ts r later (closed_array ts r e)

  items_take : (n : ℕ) → TakesItems (items p n)
  unfolding items
  items_take zero ts later = tt
  items_take (suc n) ts later = item_step later ts (items p n) (items_take n) (after_end_array ts) refl

  member_behind : (later : Bool) (k : List ℕ) (j : json.Json) (n m : ℕ) (r : Option (json.Members × List Token)) → comma_size later (key k) + (length k + 3) + json_size j + m ≤ n
      → Took (λ ms. closing true (json_members_size ms)) m r → Took (λ ms. closing later (json_members_size ms)) n (parse_map (json.member k j) r)
  member_behind later k j n m None h g = tt
  member_behind false k j n m (Some q) h g = omega arith
  member_behind true k j n m (Some q) h g = omega arith

  member_more : (later : Bool) (k : List ℕ) (n m : ℕ) (more_members : Parse json.Members) → TakesMembers more_members → (o : Option (json.Json × List Token))
      → comma_size later (key k) + (length k + 3) + m ≤ n → Took (valued false) m o
      → Took (λ ms. closing later (json_members_size ms)) n (option_and_then (λ q. parse_map (json.member k q.0) (more_members q.1)) o)
  member_more later k n m more_members again None le h = tt
  member_more later k n m more_members again (Some q) le h = member_behind later k q.0 n _ (more_members q.1) (omega arith) (again q.1 true)

  -- the token that was passed, and its comma
  key_passed : (ts r : List Token) (later : Bool) (k : List ℕ) → ts ≡ key k ∷ r → comma_size later (key k) + (length k + 3) + tokens_size false r ≤ tokens_size later ts
  key_passed ts r false k e = let same = ap (tokens_size false) e in omega (arith, same)
  key_passed ts r true k e = let same = ap (tokens_size true) e in omega (arith, same)

  brace_passed : (ts r : List Token) (later : Bool) → ts ≡ end_object ∷ r → closing later 0 + tokens_size true r ≤ tokens_size later ts
  brace_passed ts r false e = let same = ap (tokens_size false) e in omega (arith, same)
  brace_passed ts r true e = let same = ap (tokens_size true) e in omega (arith, same)

  member_step : (later : Bool) (ts : List Token) (more_members : Parse json.Members) → TakesMembers more_members → (o : Option (Option (List ℕ) × List Token)) → read_key ts ≡ o
      → Took (λ ms. closing later (json_members_size ms)) (tokens_size later ts) (option_and_then (λ q. members_step p more_members q.0 q.1) o)
  member_step later ts more_members again None e = tt
  member_step later ts more_members again (Some (None, r)) e = brace_passed ts r later (read_key_is ts None r e)
  member_step later ts more_members again (Some (Some k, r)) e =
      member_more later k (tokens_size later ts) (tokens_size false r) more_members again (p r) (key_passed ts r later k (read_key_is ts (Some k) r e)) (takes r false)

  members_take : (n : ℕ) → TakesMembers (members p n)
  unfolding members
  members_take zero ts later = tt
  members_take (suc n) ts later = member_step later ts (members p n) (members_take n) (read_key ts) refl

in_array : (later : Bool) (n : ℕ) (r : Option (json.Items × List Token)) → Took (λ js. closing false (json_items_size js)) n r → Took (valued later) (comma_size later begin_array + 1 + n) (parse_map json.array r)
in_array later n None h = tt
in_array false n (Some q) h = omega arith
in_array true n (Some q) h = omega arith

in_object : (later : Bool) (n : ℕ) (r : Option (json.Members × List Token)) → Took (λ ms. closing false (json_members_size ms)) n r → Took (valued later) (comma_size later begin_object + 1 + n) (parse_map json.object r)
in_object later n None h = tt
in_object false n (Some q) h = omega arith
in_object true n (Some q) h = omega arith

value_takes : (a : Parse json.Items) (o : Parse json.Members) → ((ts : List Token) → Took (λ js. closing false (json_items_size js)) (tokens_size false ts) (a ts))
    → ((ts : List Token) → Took (λ ms. closing false (json_members_size ms)) (tokens_size false ts) (o ts)) → TakesValue (value_with a o)
value_takes a o h g [] later = tt
value_takes a o h g (begin_object ∷ ts) later = in_object later (tokens_size false ts) (o ts) (g ts)
value_takes a o h g (end_object ∷ ts) later = tt
value_takes a o h g (begin_array ∷ ts) later = in_array later (tokens_size false ts) (a ts) (h ts)
value_takes a o h g (end_array ∷ ts) later = tt
value_takes a o h g (key s ∷ ts) later = tt
value_takes a o h g (token.string s ∷ ts) false = omega arith
value_takes a o h g (token.string s ∷ ts) true = omega arith
value_takes a o h g (token.number s ∷ ts) false = omega arith
value_takes a o h g (token.number s ∷ ts) true = omega arith
value_takes a o h g (token.boolean b ∷ ts) false = omega arith
value_takes a o h g (token.boolean b ∷ ts) true = omega arith
value_takes a o h g (token.null ∷ ts) false = omega arith
value_takes a o h g (token.null ∷ ts) true = omega arith
value_takes a o h g (bad ∷ ts) later = tt

nested : (depth : ℕ) → TakesValue (value depth)
unfolding value
nested zero = value_takes (λ ts. None) (λ ts. None) (λ ts. tt) (λ ts. tt)
nested (suc depth) =
    value_takes (λ ts. items (value depth) (length ts) ts) (λ ts. members (value depth) (length ts) ts)
    (λ ts. items_take (value depth) (nested depth) (length ts) ts false) (λ ts. members_take (value depth) (nested depth) (length ts) ts false)

-- ---- the value of the tree

all_digits : (s : List ℕ) → AllDigits 10 (take (prefix_len is_ascii_digit s) s)
all_digits [] = tt
all_digits (x ∷ s) = elim (cases_Bool (is_ascii_digit x)) [
  | inl digit ↦ let small : digit_value x < 10 = grind arith in let next : 1 + prefix_len is_ascii_digit s ≡ suc (prefix_len is_ascii_digit s) = omega arith in rw (digit, next) (small, all_digits s)
  | inr none ↦ rw none tt
]

abbrev AtMost : ℕ → Option Num → Type 0
AtMost n o = IfSome o (λ v. number_size v ≤ n)

no_float : (n : ℕ) (sign : Bool) (p : Parts) → AtMost n (float_of sign p)
no_float n sign p = test (float_is_finite (nearest binary64 sign p))
  where
    test : (b : Bool) → AtMost n (if b then Some (float (nearest binary64 sign p)) else None)
    test true = omega arith
    test false = tt

unless : (b : Bool) (s : List ℕ) → not b ≡ true → (if b then s else []) ≡ []
unless false s h = refl
unless true s h = absurd (false≢true h)

-- a whole number's digits are its whole part
whole_part : (s : List ℕ) → is_integer (scan s) ≡ true → digits_of (scan s) < 2 ^ 64 → length (decimal (digits_of (scan s))) ≤ prefix_len is_ascii_digit s
unfolding scan
whole_part s h fits =
    let n = prefix_len is_ascii_digit s in
    let p = scan s in
    let a = and_parts (nat_lt 0 (length p.whole) && not p.point) (length p.exponent == 0) h in
    let b = and_parts (nat_lt 0 (length p.whole)) (not p.point) a.0 in
    let some : 0 < length p.whole = ltb-true 0 (length p.whole) b.0 in
    let none : p.fraction ≡ [] = unless p.point _ b.1 in
    let k : 0 + n - 0 ≡ n = omega arith in
    let whole : p.whole ≡ take n s = ap (λ i. take i s) k in
    let value : digits_of p ≡ digits_value 10 (take n s) = ap (digits_value 10) (ap (λ f. p.whole ++ f) none ∙ append-nil p.whole ∙ whole) in
    let long : length (take n s) ≡ n = length-prefix_len is_ascii_digit s in
    let bound : digits_value 10 (take n s) < 10 ^ length (take n s) = digits_value-lt 10 (take n s) (all_digits s) in
    let there : digits_of p < 10 ^ n = subst (λ m. digits_of p < 10 ^ m) long (subst (λ v. v < 10 ^ length (take n s)) (sym value) bound) in
    length-decimal-le n (digits_of p) (omega (arith, some, ap length whole, long)) there fits

if_integer : (n : ℕ) (b : Bool) (v : Num) (o : Option Num) → (b ≡ true → number_size v ≤ n) → AtMost n o → AtMost n (if b then Some v else o)
if_integer n true v o h g = h refl
if_integer n false v o h g = g

plain_number : (s : List ℕ) → AtMost (prefix_len is_ascii_digit s) (number_from false (scan s))
plain_number s =
    let n = prefix_len is_ascii_digit s in
    let p = scan s in
    if_integer n (is_integer p && nat_lt (digits_of p) (2 ^ 64)) (unsigned (digits_of p)) (float_of false p)
    (λ h. let parts = and_parts (is_integer p) (nat_lt (digits_of p) (2 ^ 64)) h in whole_part s parts.0 (ltb-true (digits_of p) (2 ^ 64) parts.1))
    (no_float n false p)

signed_number : (n : ℕ) (p : Parts) → AtMost n (number_from true p)
signed_number n p =
    if_integer n (is_integer p && nat_lt 0 (digits_of p) && nat_le (digits_of p) (2 ^ 63)) (negative (with_sign true (digits_of p))) (float_of true p)
    (λ h. omega arith) (no_float n true p)

one_sign : (n : ℕ) (b : Bool) (x y : Option Num) → AtMost n x → AtMost n y → AtMost n (if b then x else y)
one_sign n true x y h g = h
one_sign n false x y h g = g

number_fits : (s : List ℕ) → AtMost (prefix_len is_ascii_digit s) (number_of s)
unfolding number_of
number_fits s = let n = prefix_len is_ascii_digit s in one_sign n (slice_index s 0 == minus) _ _ (signed_number n (scan (drop 1 s))) (plain_number s)

by_order : (o : Ordering) (a b c : Members) (n : ℕ) → members_size a ≤ n → (o ≡ Equal → members_size b ≤ n) → members_size c ≤ n → members_size (match_ordering o a b c) ≤ n
by_order Less a b c n x y z = x
by_order Equal a b c n x y z = y refl
by_order Greater a b c n x y z = z

pub same_key : (k l : List ℕ) → slice_cmp nat_cmp k l ≡ Equal → k ≡ l
same_key k l e = (bytes_eq-Decides k l).0 (sym (is_eq-slice_cmp k l) ∙ ap is_eq e)

put_size : (k : List ℕ) (d : Data) (ms : Members) → members_size (put k d ms) ≤ length k + 4 + size d + members_size ms
put_size k d no_members = omega arith
put_size k d (member l e ms) =
    let rest = put_size k d ms in
    by_order (slice_cmp nat_cmp k l) (member k d (member l e ms)) (member l d ms) (member l e (put k d ms)) _
    (omega arith) (λ is. let same = ap length (same_key k l is) in omega (arith, same)) (omega (arith, rest))

-- what is read takes so much at most, where it is read
abbrev Reads : {A : Type 0} → (A → ℕ) → ℕ → Option A → Type 0
Reads f n o = IfSome o (λ a. f a ≤ n)

mapped : {A B : Type 0} (f : A → ℕ) (g : B → ℕ) (h : A → B) (n m : ℕ) (o : Option A) → Reads f n o → ((a : A) → f a ≤ n → g (h a) ≤ m) → Reads g m (option_map h o)
mapped f g h n m None within gives = tt
mapped f g h n m (Some a) within gives = gives a within

next : {A B : Type 0} (f : A → ℕ) (g : B → ℕ) (h : A → Option B) (n m : ℕ) (o : Option A) → Reads f n o → ((a : A) → f a ≤ n → Reads g m (h a)) → Reads g m (option_and_then h o)
next f g h n m None within gives = tt
next f g h n m (Some a) within gives = gives a within

wider : {A : Type 0} (f : A → ℕ) (n m : ℕ) (o : Option A) → Reads f n o → n ≤ m → Reads f m o
wider f n m None within le = tt
wider f n m (Some a) within le = omega arith

mutual
  json_within : (j : json.Json) → Reads size (json_size j) (of_json j)
  json_within json.null = omega arith
  json_within (json.boolean b) = omega arith
  json_within (json.number s) = mapped number_size size number _ _ (number_of s) (number_fits s) (λ v h. h)
  json_within (json.string s) = omega arith
  json_within (json.array js) = mapped items_size size array _ _ (of_items js) (items_within js) (λ ds h. omega arith)
  json_within (json.object ms) = mapped members_size size object (json_members_size ms + 0) _ (of_members ms no_members) (members_within ms no_members) (λ ds h. omega arith)

  items_within : (js : json.Items) → Reads items_size (json_items_size js) (of_items js)
  items_within json.no_items = omega arith
  items_within (json.item j js) =
      next size items_size _ _ _ (of_json j) (json_within j) (λ d h. mapped items_size items_size (item d) _ _ (of_items js) (items_within js) (λ ds hs. omega arith))

  members_within : (ms : json.Members) (before : Members) → Reads members_size (json_members_size ms + members_size before) (of_members ms before)
  members_within json.no_members before = omega arith
  members_within (json.member k j ms) before =
      next size members_size _ _ _ (of_json j) (json_within j)
      (λ d h. let more = put_size k d before in wider members_size _ _ (of_members ms (put k d before)) (members_within ms (put k d before)) (omega arith))

of_tree : (n : ℕ) (o : Option (json.Json × List Token)) → Took (valued false) n o → Reads size n (option_and_then of_json (option_and_then (λ p. if_last p.0 p.1) o))
of_tree n None h = tt
of_tree n (Some (j, [])) h = wider size _ n (of_json j) (json_within j) (omega arith)
of_tree n (Some (j, t ∷ ts)) h = tt

pub read_fits : (text : List ℕ) → IfSome (read text) (λ d. size d ≤ length text)
read_fits text = of_tree (length text) (value max_depth (tokens text)) (taken (value max_depth (tokens text)) (nested max_depth (tokens text) false) (tokens_fit text))
  where
    taken : (o : Option (json.Json × List Token)) → Took (valued false) (tokens_size false (tokens text)) o → tokens_size false (tokens text) ≤ length text → Took (valued false) (length text) o
    taken None h le = tt
    taken (Some p) h le = omega arith
