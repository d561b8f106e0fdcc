-- What a word makes of the words behind it, which are no flags.
use Rattle.std.proofs.Common.{◌≡◌, ◌∙◌, ◌+◌, ◌≤◌, ◌&&◌, ℕ, Bool, true, false, List, [], ◌∷◌, ◌++◌, Some, None, arith, refl, sym, ap, append-nil, append_assoc, fold, length, length-append, min, not, subst}
use Rattle.std.specs.List.{list_any}
use Rattle.std.specs.Str.{bytes_eq}
use Rattle.std.proofs.lemmas.Bool.{or_parts}
use Rattle.std.proofs.Math.Bool.{and-false}
use Rattle.clap.specs.Lexer.{usize_max, long_of, short_of}
use Rattle.clap.specs.Walk.{Held, Row, Rule, Text, Walk, arg_by_id, arg_by_index, at_row, finished, has_row, idle, more_values, nothing_held, pushed, settled, settled_rows, walk_from, walked}
use Rattle.clap.specs.Simple.{Shape, new_shape}
use Rattle.clap.specs.Kinds.{Kinds, or_else}
use Rattle.clap.specs.Faults.{check_fault, defaults_fault, level_fault, settle_fault, turn_fault, walk_fault}
use Rattle.clap.specs.declared.parser.matches.ValueSource.TheVariants.{CommandLine}
use Rattle.clap.specs.declared.error.kind.ErrorKind.TheVariants as kind
use Rattle.clap.proofs.WalkLemmas.{both}
use Rattle.clap.proofs.SimpleLemmas.{is_false}
use Rattle.pm_words.specs.Told.{value_row, value_rows}
use Rattle.pm_words.specs.Words.{is_flag}
use Rattle.pm_words.proofs.Placed.{built_rule, has_label, is_missing, named, no_default_fails, no_defaults, no_row, none_at_row, none_missing, none_placed, not_given, one_missing, one_row_more, placed, rules_from}

-- the word is no flag
pub record IsPlain (word : Text) : Type 0 where
  pub long : long_of word ≡ None
  pub short : short_of word ≡ None
  pub dashes : bytes_eq word (45 ∷ 45 ∷ []) ≡ false

pub plain : (word : Text) → is_flag word ≡ false → IsPlain word
plain [] clean = record { long = refl; short = refl; dashes = refl }
plain (x ∷ xs) clean = record { long = rw clean refl; short = rw clean refl; dashes = rw clean refl }

-- a word with these values, as the command is built
abbrev pub built_shape : Text → List Rule → Shape
built_shape name rules = record (new_shape name) {
  rules = rules;
  no_binary_name = true;
  disable_help_flag = true;
  disable_help_subcommand = true;
  is_built = true;
}

-- the walk before the value at place k
abbrev pub at : ℕ → Held → Walk
at k h = record { held = h; waiting = idle; position = k; is_trailing = false; stopped = None }

module _ (name : Text) (c : List Rule) where
  -- with the value that waits, these rows are held
  pub record Holds (h : Held) (rows : List Row) : Type 0 where
    pub fault : settle_fault c false h ≡ []
    pub held : settled_rows c h.pending h.rows ≡ rows

  pub step : (k : ℕ) (h : Held) (w : Text) (word : Text) → IsPlain word → arg_by_index c k ≡ Some (built_rule k w) → k + 1 ≤ usize_max
      → walked c [] (at k h) word ≡ at (k + 1) (pushed w word (settled c h))
  unfolding walked
  step k h w word p index small =
      let next : min (k + 1) usize_max ≡ k + 1 = omega arith in
      let pl = p.long in let ps = p.short in let pd = p.dashes in
      simp (pl, ps, pd, index, next, and-false)

  pub turn : (k : ℕ) (h : Held) (w : Text) (word : Text) → IsPlain word → arg_by_index c k ≡ Some (built_rule k w)
      → turn_fault (built_shape name c) [] (at k h) word ≡ settle_fault c false h
  turn k h w word p index =
      let pl = p.long in let ps = p.short in let pd = p.dashes in
      simp (pl, ps, pd, index, and-false)

  pub stray : (k : ℕ) (h : Held) (word : Text) → IsPlain word → arg_by_index c k ≡ None
      → turn_fault (built_shape name c) [] (at k h) word ≡ kind.UnknownArgument ∷ []
  stray k h word p index =
      let pl = p.long in let ps = p.short in let pd = p.dashes in
      simp (pl, ps, pd, index)

  -- one value more is held
  pub holds_more : (k : ℕ) (h : Held) (rows : List Row) (w : Text) (word : Text) → Holds h rows → arg_by_id c w ≡ Some (built_rule k w)
      → has_row w rows ≡ false → Holds (pushed w word (settled c h)) (rows ++ value_row w word ∷ [])
  holds_more k h rows w word holds id new =
      let held = holds.held in
      record {
        fault = simp (id, held, new);
        held =
            let without : at_row w (λ _. []) [] rows ≡ rows = none_at_row w (λ _. []) [] rows new ∙ append-nil rows in
            simp (id, held, without) (none_at_row w (more_values CommandLine (word ∷ [])) (value_row w word ∷ []) rows new);
      }

  -- what is left to fail at the end of the words, and what is kept
  abbrev pub ended : Walk → Kinds
  ended w = or_else (settle_fault c false w.held)
      (or_else (defaults_fault (settled c w.held).rows c) (check_fault (built_shape name c) (finished c w.held) false))

  abbrev pub fails : Walk → List Text → Kinds
  fails w words = or_else (walk_fault (built_shape name c) [] w words) (ended (fold (walked c []) w words))

  pub fails_is : (words : List Text) → level_fault (built_shape name c) [] nothing_held words false [] ≡ fails (walk_from nothing_held) words
  fails_is words = refl

  pub goes_on : (k : ℕ) (h : Held) (rows : List Row) (w : Text) (word : Text) (rest : List Text) → IsPlain word → Holds h rows
      → arg_by_index c k ≡ Some (built_rule k w) → k + 1 ≤ usize_max
      → fails (at k h) (word ∷ rest) ≡ fails (at (k + 1) (pushed w word (settled c h))) rest
  unfolding walk_fault
  goes_on k h rows w word rest p holds index small =
      let none = turn k h w word p index ∙ holds.fault in
      let next = step k h w word p index small in
      simp (none, next)

-- no word is a flag
abbrev pub IsFlagless : List Text → Type 0
IsFlagless words = list_any is_flag words ≡ false

pub first_plain : (word : Text) (rest : List Text) → IsFlagless (word ∷ rest) → IsPlain word
first_plain word rest clean = plain word (or_parts (is_flag word) (list_any is_flag rest) clean).0

pub rest_flagless : (word : Text) (rest : List Text) → IsFlagless (word ∷ rest) → IsFlagless rest
rest_flagless word rest clean = (or_parts (is_flag word) (list_any is_flag rest) clean).1

-- no two of the values have one name, and none has one of those before
abbrev pub are_apart : List Text → List Text → Bool
are_apart before [] = true
are_apart before (w ∷ ws) = not (has_label w before) && are_apart (before ++ w ∷ []) ws

-- a word fails exactly where it has not as many values as it wants, and keeps them where it has
pub record ComesTo (name : Text) (c : List Rule) (w : Walk) (rest : List Text) (all : List Text) (values : List Text) : Type 0 where
  pub fits : length values ≡ length all → fails name c w rest ≡ []
  pub each : fails name c w rest ≡ [] → length values ≡ length all
  pub kept : length values ≡ length all → finished c (fold (walked c []) w rest).held ≡ value_rows all values

module _ (name : Text) (all : List Text) (few : 1 + length all ≤ usize_max) where
  abbrev c : List Rule
  c = rules_from 1 all

  at_end : (k : ℕ) (h : Held) (values : List Text) → length values ≡ length all → Holds name c h (value_rows all values) → ComesTo name c (at k h) [] all values
  unfolding walk_fault
  at_end k h values each holds =
      let fault = holds.fault in
      let held = holds.held in
      let whole : list_any (is_missing (value_rows all values)) c ≡ false = none_missing 1 [] all values each in
      let none = no_defaults 1 all (value_rows all values) in
      let right = no_default_fails 1 all (value_rows all values) in
      record {
        fits = λ _. simp (fault, held, right, none, whole);
        each = λ _. each;
        kept = λ _. simp (held, none);
      }

  too_many : (k : ℕ) (h : Held) (values : List Text) (word : Text) (rest : List Text) → k ≡ 1 + length all → length values ≡ length all → IsPlain word
      → ComesTo name c (at k h) (word ∷ rest) all (values ++ word ∷ rest)
  unfolding walk_fault
  too_many k h values word rest place each p =
      let none = stray name c k h word p (none_placed 1 k all place) in
      let more = length-append values (word ∷ rest) in
      let fault : fails name c (at k h) (word ∷ rest) ≡ kind.UnknownArgument ∷ [] = rw none refl in
      record {
        fits = λ same. absurd (omega (arith, more, same));
        each = λ fits. absurd (cc (fault, fits));
        kept = λ same. absurd (omega (arith, more, same));
      }

  too_few : (k : ℕ) (h : Held) (values : List Text) (before : List Text) (w : Text) (ws : List Text) → all ≡ before ++ w ∷ ws → length values ≡ length before
      → has_label w before ≡ false → Holds name c h (value_rows before values) → ComesTo name c (at k h) [] all values
  unfolding walk_fault
  too_few k h values before w ws is each new holds =
      let fault = holds.fault in
      let held = holds.held in
      let rows = value_rows before values in
      let lacks : list_any (is_missing rows) c ≡ true =
      ap (λ ws. list_any (is_missing rows) (rules_from 1 ws)) is ∙ one_missing 1 rows before w ws (not_given w before values new) in
      let none = no_defaults 1 all rows in
      let right = no_default_fails 1 all rows in
      let wrong : fails name c (at k h) [] ≡ kind.MissingRequiredArgument ∷ [] = simp (fault, held, right, none, lacks) in
      let more = ap length is ∙ length-append before (w ∷ ws) in
      record {
        fits = λ same. absurd (omega (arith, more, same));
        each = λ fits. absurd (cc (wrong, fits));
        kept = λ same. absurd (omega (arith, more, same));
      }

  pub comes_to : (k : ℕ) (before ws : List Text) (h : Held) (values rest : List Text) → all ≡ before ++ ws → k ≡ 1 + length before
      → are_apart before ws ≡ true → length values ≡ length before → IsFlagless rest → Holds name c h (value_rows before values)
      → ComesTo name c (at k h) rest all (values ++ rest)
  comes_to k before [] h values [] is place apart each clean holds =
      let whole : all ≡ before = is ∙ append-nil before in
      let same : length values ≡ length all = each ∙ sym (ap length whole) in
      rw (append-nil values) (at_end k h values same (subst (λ ws. Holds name c h (value_rows ws values)) (sym whole) holds))
  comes_to k before [] h values (word ∷ rest) is place apart each clean holds =
      let whole : all ≡ before = is ∙ append-nil before in
      too_many k h values word rest (place ∙ ap (λ n. 1 + n) (sym (ap length whole))) (each ∙ sym (ap length whole)) (first_plain word rest clean)
  comes_to k before (w ∷ ws) h values [] is place apart each clean holds =
      let new = (both (not (has_label w before)) (are_apart (before ++ w ∷ []) ws) apart).0 in
      rw (append-nil values) (too_few k h values before w ws is each (is_false (has_label w before) new) holds)
  comes_to k before (w ∷ ws) h values (word ∷ rest) is place apart each clean holds =
      let parts = both (not (has_label w before)) (are_apart (before ++ w ∷ []) ws) apart in
      let new = is_false (has_label w before) parts.0 in
      let length_is = ap length is ∙ length-append before (w ∷ ws) in
      let index : arg_by_index c k ≡ Some (built_rule k w) =
      ap (λ ws. arg_by_index (rules_from 1 ws) k) is ∙ placed 1 k before w ws place in
      let id : arg_by_id c w ≡ Some (built_rule k w) =
      ap (λ ws. arg_by_id (rules_from 1 ws) w) is ∙ named 1 k before w ws place new in
      let small : k + 1 ≤ usize_max = omega (arith, few, length_is, place) in
      let p = first_plain word rest clean in
      let more = holds_more name c k h (value_rows before values) w word holds id (no_row w before values new) in
      let longer = length-append before (w ∷ []) in
      let values_longer = length-append values (word ∷ []) in
      let next_place : k + 1 ≡ 1 + length (before ++ w ∷ []) = omega (arith, place, longer) in
      let next_each : length (values ++ word ∷ []) ≡ length (before ++ w ∷ []) = omega (arith, each, longer, values_longer) in
      let next_held : Holds name c (pushed w word (settled c h)) (value_rows (before ++ w ∷ []) (values ++ word ∷ [])) =
      subst (Holds name c (pushed w word (settled c h))) (one_row_more before values w word each) more in
      let next = comes_to (k + 1) (before ++ w ∷ []) ws (pushed w word (settled c h)) (values ++ word ∷ []) rest (is ∙ sym (append_assoc before (w ∷ []) ws)) next_place
      parts.1 next_each (rest_flagless word rest clean) next_held in
      let on = goes_on name c k h (value_rows before values) w word rest p holds index small in
      let by : walked c [] (at k h) word ≡ at (k + 1) (pushed w word (settled c h)) = step name c k h w word p index small in
      let told = subst (ComesTo name c (at (k + 1) (pushed w word (settled c h))) rest all) (append_assoc values (word ∷ []) rest) next in
      record {
        fits = λ same. on ∙ told.fits same;
        each = λ fits. told.each (sym on ∙ fits);
        kept = λ same. ap (λ (at : Walk). finished c (fold (walked c []) at rest).held) by ∙ told.kept same;
      }

  pub values_come_to : (rest : List Text) → are_apart [] all ≡ true → IsFlagless rest → ComesTo name c (walk_from nothing_held) rest all rest
  values_come_to rest apart clean = comes_to 1 [] all nothing_held [] rest refl refl apart refl clean (record { fault = refl; held = refl })
