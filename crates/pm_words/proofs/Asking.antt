-- What words ask for, by what the command makes of them.
use Rattle.std.proofs.Common.{◌≡◌, ◌∙◌, ◌+◌, ◌<◌, ◌≤◌, ◌==◌, ◌&&◌, ℕ, Bool, true, false, not, List, [], ◌∷◌, ◌++◌, Option, None, Some, arith, refl, sym, ap, subst, cond, inl, inr, true≢false, length, map, get_or, zero, suc}
use Rattle.std.specs.Prelude.{decimal, nat_le, nat_lt}
use Rattle.std.specs.List.{find, list_all, list_any}
use Rattle.std.specs.Option.{IsSomeAnd}
use Rattle.std.specs.Str.{bytes_eq}
use Rattle.std.specs.Cmp.Lexicographic.{same_text}
use Rattle.std.proofs.lemmas.Bool.{leb-true, ltb-true, or_from}
use Rattle.std.proofs.lemmas.List.{length-append, length-map}
use Rattle.std.proofs.lemmas.Fmt.{decimal_digit, first_decimal}
use Rattle.clap.specs.Lexer.{usize_max}
use Rattle.clap.specs.Walk.{Rule, Text, nothing_held, rows_after, stop_after, walk_from}
use Rattle.clap.specs.Kinds.{HasKind}
use Rattle.clap.specs.Values.{kind_of}
use Rattle.clap.specs.Faults.{built_fault, fault_of, is_simple_and_free, level_fault}
use Rattle.clap.specs.Simple.{App, HasMatchesOf, entered, filled_from, is_simple, names_of, subcommand_of, subcommand_rows_of}
use Rattle.clap.specs.declared.parser.matches.ArgMatches.{ArgMatches}
use Rattle.clap.specs.declared.error.Error.{Error}
use Rattle.clap.specs.declared.error.kind.ErrorKind.TheVariants.{OutOfMemory}
use Rattle.clap.proofs.WalkLemmas.{both}
use Rattle.clap.proofs.SimpleLemmas.{is_false}
use Rattle.pm_words.specs.Lists.{Wanted, Entry, entries, labels_of}
use Rattle.pm_words.specs.Told.{app, value_rule, TellsMet}
use Rattle.pm_words.specs.Words.{AreTexts, AreWithin, Says, IsOther, entry_named, is_flag}
use Rattle.pm_words.proofs.Placed.{filled_from-is, rules_from}
use Rattle.pm_words.proofs.Behind.{ComesTo, IsFlagless, are_apart, built_shape, fails, first_plain, rest_flagless, values_come_to}
use Rattle.pm_words.proofs.Telling.{built_with, is_simple_app, is_free_app, no_word, other_word, word_fault, word_met}

-- ---- the list is such that the words behind a word are told apart

abbrev pub is_number : Wanted → Bool
is_number wanted = nat_lt wanted.most 65536

abbrev is_well_made : Entry → Bool
is_well_made entry = nat_le (1 + length (labels_of entry)) usize_max && (are_apart [] (labels_of entry) && (not (is_flag entry.name) && list_all is_number entry.wanted))

pub record WellMade (entry : Entry) : Type 0 where
  pub few : 1 + length (labels_of entry) ≤ usize_max
  pub apart : are_apart [] (labels_of entry) ≡ true
  pub plain : is_flag entry.name ≡ false
  pub numbers : list_all is_number entry.wanted ≡ true

all_well_made : list_all is_well_made entries ≡ true
all_well_made = refl

first_or_later : {X : Type 0} (P : X → Type 0) (b : Bool) (y x : X) (later : Option X) → cond b (Some y) later ≡ Some x → (b ≡ true → P y) → (later ≡ Some x → P x) → P x
first_or_later P true y x later is first behind = subst P (cc is) (first refl)
first_or_later P false y x later is first behind = behind is

found_passes : {X : Type 0} (p q : X → Bool) (xs : List X) (x : X) → find p xs ≡ Some x → list_all q xs ≡ true → (p x ≡ true) × (q x ≡ true)
found_passes p q [] x is all = absurd (cc is)
found_passes p q (y ∷ ys) x is all =
    let parts = both (q y) (list_all q ys) all in
    first_or_later (λ z. (p z ≡ true) × (q z ≡ true)) (p y) y x (find p ys) is (λ passes. (passes, parts.0)) (λ later. found_passes p q ys x later parts.1)

pub well_made : (name : Text) (entry : Entry) → entry_named name ≡ Some entry → (entry.name ≡ name) × WellMade entry
well_made name entry is =
    let passes = found_passes (λ (e : Entry). bytes_eq e.name name) is_well_made entries entry is all_well_made in
    let one = both (nat_le (1 + length (labels_of entry)) usize_max) (are_apart [] (labels_of entry) && (not (is_flag entry.name) && list_all is_number entry.wanted)) passes.1 in
    let two = both (are_apart [] (labels_of entry)) (not (is_flag entry.name) && list_all is_number entry.wanted) one.1 in
    let three = both (not (is_flag entry.name)) (list_all is_number entry.wanted) two.1 in (
      same_text entry.name name (sym passes.0),
      record { few = leb-true (1 + length (labels_of entry)) usize_max one.0; apart = two.0; plain = is_false (is_flag entry.name) three.0; numbers = three.1 },
    )

-- ---- a word that begins with `-` is outside the grammar

-- a number doesn't begin with one
above : (x : ℕ) → 48 < x → (x == 45) ≡ false
above x h = grind arith

decimal_is_plain : (n : ℕ) → n < 65536 → is_flag (decimal n) ≡ false
decimal_is_plain zero small = ap is_flag (decimal_digit 0 (omega arith))
decimal_is_plain (suc n) small = above (get_or (decimal (suc n)) 0 0) (first_decimal (suc n) (omega arith) (omega arith))

numbers_flagless : (wanted : List Wanted) (numbers : List ℕ) (behind : List Text) → list_all is_number wanted ≡ true → AreWithin wanted numbers → IsFlagless behind
    → IsFlagless (map decimal numbers ++ behind)
numbers_flagless [] [] behind small within plain = plain
numbers_flagless [] (n ∷ ns) behind small within plain = absurd within
numbers_flagless (w ∷ ws) [] behind small within plain = absurd within
numbers_flagless (w ∷ ws) (n ∷ ns) behind small within plain =
    let parts = both (is_number w) (list_all is_number ws) small in
    let most = ltb-true w.most 65536 parts.0 in
    let least : n < 65536 = omega (arith, within.1, most) in
    or_from (is_flag (decimal n)) (list_any is_flag (map decimal ns ++ behind)) (decimal_is_plain n least) (numbers_flagless ws ns behind parts.1 within.2 plain)

texts_flagless : (wanted texts : List Text) → AreTexts wanted texts → IsFlagless texts
texts_flagless [] [] are = refl
texts_flagless [] (t ∷ ts) are = absurd are
texts_flagless (w ∷ ws) [] are = absurd are
texts_flagless (w ∷ ws) (t ∷ ts) are = or_from (is_flag t) (list_any is_flag ts) are.1 (texts_flagless ws ts are.2)

pub as_many : (wanted : List Wanted) (numbers : List ℕ) → AreWithin wanted numbers → length numbers ≡ length wanted
as_many [] [] within = refl
as_many [] (n ∷ ns) within = absurd within
as_many (w ∷ ws) [] within = absurd within
as_many (w ∷ ws) (n ∷ ns) within = ap suc (as_many ws ns within.2)

as_many_texts : (wanted texts : List Text) → AreTexts wanted texts → length texts ≡ length wanted
as_many_texts [] [] are = refl
as_many_texts [] (t ∷ ts) are = absurd are
as_many_texts (w ∷ ws) [] are = absurd are
as_many_texts (w ∷ ws) (t ∷ ts) are = ap suc (as_many_texts ws ts are.2)

-- which word it is
pub record IsListed (name : Text) (numbers : List ℕ) (texts : List Text) : Type 0 where
  pub entry : Entry
  pub named : entry_named name ≡ Some entry
  pub is : entry.name ≡ name
  pub made : WellMade entry
  pub within : AreWithin entry.wanted numbers
  pub are : AreTexts entry.texts texts

listed : (name : Text) (numbers : List ℕ) (texts : List Text) (o : Option Entry) → entry_named name ≡ o
    → IsSomeAnd o (λ entry. AreWithin entry.wanted numbers × AreTexts entry.texts texts) → IsListed name numbers texts
listed name numbers texts None is behind = absurd behind
listed name numbers texts (Some entry) is behind =
    let well = well_made name entry is in
    record { entry = entry; named = is; is = well.0; made = well.1; within = behind.0; are = behind.1 }

pub listed_by : (words : List Text) (name : Text) (numbers : List ℕ) (texts : List Text) → Says words name numbers texts → IsListed name numbers texts
listed_by words name numbers texts says = listed name numbers texts (entry_named name) refl says.listed

-- as much stands behind the word as it wants
as_many_behind : (entry : Entry) (numbers : List ℕ) (texts : List Text) → AreWithin entry.wanted numbers → AreTexts entry.texts texts
    → length (map decimal numbers ++ texts) ≡ length (labels_of entry)
as_many_behind entry numbers texts within are =
    let some = length-append (map decimal numbers) texts in
    let wanted = length-append (map (λ (w : Wanted). w.label) entry.wanted) entry.texts in
    let digits = length-map numbers decimal in
    let labels = length-map entry.wanted (λ (w : Wanted). w.label) in
    let each = as_many entry.wanted numbers within in
    let each_text = as_many_texts entry.texts texts are in
    omega (arith, some, wanted, digits, labels, each, each_text)

pub flagged : (words : List Text) → list_any is_flag words ≡ true → IsOther words
flagged words flag name numbers texts says =
    let l = listed_by words name numbers texts says in
    let plain : is_flag name ≡ false = subst (λ (n : Text). is_flag n ≡ false) l.is l.made.plain in
    let behind = numbers_flagless l.entry.wanted numbers texts l.made.numbers l.within (texts_flagless l.entry.texts texts l.are) in
    let none : IsFlagless (name ∷ map decimal numbers ++ texts) = or_from (is_flag name) (list_any is_flag (map decimal numbers ++ texts)) plain behind in
    true≢false (sym flag ∙ ap (list_any is_flag) says.told ∙ none)

-- ---- what the command makes of the words

fault_is : (words : List Text) → fault_of app words ≡ built_fault (built_with entries) nothing_held words
unfolding app
fault_is words = refl

met_is : (words : List Text) → subcommand_of app words ≡ entered (built_with entries) (stop_after [] (names_of (built_with entries)) words)
unfolding app
met_is words = refl

-- a word that there is, with the words behind it
module _ (e : Entry) (made : WellMade e) (is : entry_named e.name ≡ Some e) (rest : List Text) (clean : IsFlagless rest) where
  abbrev labels : List Text
  labels = labels_of e

  rules_are : filled_from 1 (map value_rule labels) ≡ rules_from 1 labels
  rules_are = filled_from-is 1 labels made.few

  comes : ComesTo e.name (rules_from 1 labels) (walk_from nothing_held) rest labels rest
  comes = values_come_to e.name labels made.few rest made.apart clean

  below : fault_of app (e.name ∷ rest) ≡ fails e.name (rules_from 1 labels) (walk_from nothing_held) rest
  below = fault_is (e.name ∷ rest) ∙ word_fault entries e rest is ∙ ap (λ (c : List Rule). level_fault (built_shape e.name c) [] nothing_held rest false []) rules_are

  pub passes : length rest ≡ length labels → fault_of app (e.name ∷ rest) ≡ []
  passes each = below ∙ comes.fits each

  pub tells : IsFlagless (e.name ∷ rest) → fault_of app (e.name ∷ rest) ≡ [] → TellsMet (e.name ∷ rest) (subcommand_of app (e.name ∷ rest))
  tells plain fits =
      let each = comes.each (sym below ∙ fits) in
      let met = met_is (e.name ∷ rest) ∙ word_met entries e rest is in
      let rows = ap (λ (c : List Rule). rows_after c [] rest) rules_are ∙ comes.kept each in
      subst (TellsMet (e.name ∷ rest)) (sym met) (record { entry = e; named = is; values = rest; told = refl; plain = plain; each = each; found = rows })

fits : (words : List Text) (name : Text) (numbers : List ℕ) (texts : List Text) → IsFlagless words → Says words name numbers texts → fault_of app words ≡ []
fits words name numbers texts clean says =
    let l = listed_by words name numbers texts says in
    let e = l.entry in
    let rest = map decimal numbers ++ texts in
    let told : words ≡ e.name ∷ rest = says.told ∙ ap (λ n. n ∷ rest) (sym l.is) in
    let named = ap entry_named l.is ∙ l.named in
    let each = as_many_behind e numbers texts l.within l.are in
    ap (fault_of app) told ∙ passes e l.made named rest (rest_flagless e.name rest (subst IsFlagless told clean)) each

by_first : (word : Text) (rest : List Text) (o : Option Entry) → entry_named word ≡ o → IsFlagless (word ∷ rest) → fault_of app (word ∷ rest) ≡ []
    → TellsMet (word ∷ rest) (subcommand_of app (word ∷ rest))
by_first word rest None is clean right =
    let other = fault_is (word ∷ rest) ∙ other_word entries word rest (first_plain word rest clean) is in
    absurd (cc (other, right))
by_first word rest (Some e) is clean right =
    let well = well_made word e is in
    let behind = rest_flagless word rest clean in
    subst (λ (w : Text). IsFlagless (w ∷ rest) → fault_of app (w ∷ rest) ≡ [] → TellsMet (w ∷ rest) (subcommand_of app (w ∷ rest))) well.0
    (tells e well.1 (ap entry_named well.0 ∙ is) rest behind) clean right

pub told : (words : List Text) → IsFlagless words → fault_of app words ≡ [] → TellsMet words (subcommand_of app words)
told [] clean right =
    let none = fault_is [] ∙ no_word entries in
    absurd (cc (none, right))
told (word ∷ rest) clean right = by_first word rest (entry_named word) refl clean right

-- what is refused for another cause than want of memory is outside the grammar
pub refused : (words : List Text) (made : App) (error : Error) → made ≡ app → IsFlagless words → (is_simple_and_free made ≡ true → HasKind (fault_of made words) error)
    → (kind_of error ≡ OutOfMemory → ⊥) → IsOther words
refused words made error is clean fails memory name numbers texts says =
    let none : fault_of made words ≡ [] = ap (λ (a : App). fault_of a words) is ∙ fits words name numbers texts clean says in
    none_fails error (subst (λ kinds. HasKind kinds error) none (fails (ap is_simple_and_free is ∙ is_free_app))) memory
  where
    none_fails : (error : Error) → HasKind [] error → (kind_of error ≡ OutOfMemory → ⊥) → ⊥
    none_fails error (inl lacks) memory = memory lacks
    none_fails error (inr h) memory = h

-- what is not refused is told
pub read_by : (words : List Text) (made : App) (m : ArgMatches) → made ≡ app → IsFlagless words → HasMatchesOf made words m
    → (is_simple_and_free made ≡ true → fault_of made words ≡ []) → TellsMet words (subcommand_rows_of m)
read_by words made m is clean matches fits =
    let met : subcommand_rows_of m ≡ subcommand_of app words =
    (matches (ap is_simple is ∙ is_simple_app)).1 ∙ ap (λ (a : App). subcommand_of a words) is in
    let none : fault_of app words ≡ [] =
    sym (ap (λ (a : App). fault_of a words) is) ∙ fits (ap is_simple_and_free is ∙ is_free_app) in
    subst (TellsMet words) (sym met) (told words clean none)
