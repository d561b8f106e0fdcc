-- The values of a word, by their places: what the command knows of each, and what it keeps of it.
use Rattle.std.proofs.Common.{◌≡◌, ◌∙◌, ◌+◌, ◌==◌, ◌≤◌, ◌&&◌, ◌||◌, ℕ, Bool, true, false, not, List, [], ◌∷◌, ◌++◌, Some, None, arith, refl, sym, ap, append_assoc, cond, fold, length, map, min, true≢false}
use Rattle.std.specs.List.{find, list_any}
use Rattle.std.specs.Option.{option_map_or}
use Rattle.std.specs.Str.{bytes_eq}
use Rattle.std.proofs.lemmas.Bool.{or_from, or_left, or_parts, or_right}
use Rattle.std.proofs.lemmas.List.Folds.{list_any-append}
use Rattle.std.proofs.lemmas.Slice.Eq.{bytes_eq-Decides}
use Rattle.clap.specs.Lexer.{usize_max}
use Rattle.clap.specs.Walk.{Row, Rule, Text, arg_by_id, arg_by_index, at_row, has_row, with_default}
use Rattle.clap.specs.Simple.{filled, filled_from, with_index}
use Rattle.clap.specs.Takes.{is_given}
use Rattle.clap.specs.Facts.{explicit_source}
use Rattle.clap.specs.Faults.{defaults_fault}
use Rattle.pm_words.specs.Told.{value_row, value_rows, value_rule}

-- the value at place k, as the command is built
abbrev pub built_rule : ℕ → Text → Rule
built_rule k w = with_index k (filled (value_rule w))

abbrev pub rules_from : ℕ → List Text → List Rule
rules_from k [] = []
rules_from k (w ∷ ws) = built_rule k w ∷ rules_from (k + 1) ws

pub filled_from-is : (k : ℕ) (ws : List Text) → k + length ws ≤ usize_max → filled_from k (map value_rule ws) ≡ rules_from k ws
filled_from-is k [] small = refl
filled_from-is k (w ∷ ws) small =
    let next : min (k + 1) usize_max ≡ k + 1 = omega arith in
    let behind : k + 1 + length ws ≤ usize_max = omega arith in
    ap (λ rules. built_rule k w ∷ rules) (ap (λ n. filled_from n (map value_rule ws)) next ∙ filled_from-is (k + 1) ws behind)

pub same_bytes : (xs : Text) → bytes_eq xs xs ≡ true
same_bytes xs = (bytes_eq-Decides xs xs).1 refl

-- ---- the value at a place, and of a name

pub placed : (k i : ℕ) (before : List Text) (w : Text) (behind : List Text) → i ≡ k + length before
    → arg_by_index (rules_from k (before ++ w ∷ behind)) i ≡ Some (built_rule i w)
placed k i [] w behind at =
    let here : k ≡ i = omega arith in
    let same : (k == i) ≡ true = grind arith in
    rw same (ap (λ n. Some (built_rule n w)) here)
placed k i (v ∷ vs) w behind at =
    let apart : (k == i) ≡ false = grind arith in
    let next : i ≡ k + 1 + length vs = omega arith in
    rw apart (placed (k + 1) i vs w behind next)

pub none_placed : (k i : ℕ) (ws : List Text) → i ≡ k + length ws → arg_by_index (rules_from k ws) i ≡ None
none_placed k i [] at = refl
none_placed k i (w ∷ ws) at =
    let apart : (k == i) ≡ false = grind arith in
    let next : i ≡ k + 1 + length ws = omega arith in
    rw apart (none_placed (k + 1) i ws next)

-- whether one of the values has this name
abbrev pub has_label : Text → List Text → Bool
has_label id ws = list_any (λ w. bytes_eq w id) ws

pub named : (k i : ℕ) (before : List Text) (w : Text) (behind : List Text) → i ≡ k + length before → has_label w before ≡ false
    → arg_by_id (rules_from k (before ++ w ∷ behind)) w ≡ Some (built_rule i w)
named k i [] w behind at new =
    let here : k ≡ i = omega arith in
    rw (same_bytes w) (ap (λ n. Some (built_rule n w)) here)
named k i (v ∷ vs) w behind at new =
    let next : i ≡ k + 1 + length vs = omega arith in
    let parts = or_parts (bytes_eq v w) (has_label w vs) new in
    rw (parts.0) (named (k + 1) i vs w behind next parts.1)

-- ---- the rows of the values that were given

pub no_row : (id : Text) (ws : List Text) (values : List Text) → has_label id ws ≡ false → has_row id (value_rows ws values) ≡ false
no_row id [] values new = refl
no_row id (w ∷ ws) [] new = refl
no_row id (w ∷ ws) (value ∷ values) new =
    let parts = or_parts (bytes_eq w id) (has_label id ws) new in
    or_from (bytes_eq w id) (has_row id (value_rows ws values)) parts.0 (no_row id ws values parts.1)

pub none_at_row : (id : Text) (change : Row → List Row) (missing rows : List Row) → has_row id rows ≡ false → at_row id change missing rows ≡ rows ++ missing
none_at_row id change missing [] none = refl
none_at_row id change missing (r ∷ rs) none =
    let parts = or_parts (bytes_eq r.id id) (has_row id rs) none in
    rw (parts.0) (ap (λ rows. r ∷ rows) (none_at_row id change missing rs parts.1))

pub one_row_more : (ws : List Text) (values : List Text) (w : Text) (value : Text) → length values ≡ length ws
    → value_rows ws values ++ value_row w value ∷ [] ≡ value_rows (ws ++ w ∷ []) (values ++ value ∷ [])
one_row_more [] [] w value each = refl
one_row_more [] (x ∷ values) w value each = absurd (omega arith)
one_row_more (v ∷ ws) [] w value each = absurd (omega arith)
one_row_more (v ∷ ws) (x ∷ values) w value each =
    let behind : length values ≡ length ws = omega arith in
    ap (λ rows. value_row v x ∷ rows) (one_row_more ws values w value behind)

first_given : (b : Bool) (w : Text) (value id : Text) (behind : List Row) → (b ≡ false → is_given id behind ≡ true)
    → option_map_or (λ (r : Row). explicit_source r.source) (cond b (Some (value_row w value)) (find (λ r. bytes_eq r.id id) behind)) false ≡ true
first_given true w value id behind later = refl
first_given false w value id behind later = later refl

pub given : (id : Text) (ws : List Text) (values : List Text) → length values ≡ length ws → has_label id ws ≡ true → is_given id (value_rows ws values) ≡ true
given id [] values each has = absurd (true≢false (sym has))
given id (w ∷ ws) [] each has = absurd (omega arith)
given id (w ∷ ws) (value ∷ values) each has =
    let behind : length values ≡ length ws = omega arith in
    first_given (bytes_eq w id) w value id (value_rows ws values)
    (λ apart. given id ws values behind (ap (λ b. b || has_label id ws) (sym apart) ∙ has))

pub not_given : (id : Text) (ws : List Text) (values : List Text) → has_label id ws ≡ false → is_given id (value_rows ws values) ≡ false
not_given id [] values new = refl
not_given id (w ∷ ws) [] new = refl
not_given id (w ∷ ws) (value ∷ values) new =
    let parts = or_parts (bytes_eq w id) (has_label id ws) new in
    rw (parts.0) (not_given id ws values parts.1)

-- ---- what is checked at the end

abbrev pub is_missing : List Row → Rule → Bool
is_missing rows a = a.required && not (is_given a.id rows)

pub none_missing : (k : ℕ) (before ws : List Text) (values : List Text) → length values ≡ length (before ++ ws)
    → list_any (is_missing (value_rows (before ++ ws) values)) (rules_from k ws) ≡ false
none_missing k before [] values each = refl
none_missing k before (w ∷ ws) values each =
    let has : has_label w (before ++ w ∷ ws) ≡ true =
    list_any-append (λ (v : Text). bytes_eq v w) before (w ∷ ws) ∙ or_right (has_label w before) _ (or_left (bytes_eq w w) _ (same_bytes w)) in
    let here = ap not (given w (before ++ w ∷ ws) values each has) in
    let same = append_assoc before (w ∷ []) ws in
    let behind = none_missing (k + 1) (before ++ w ∷ []) ws values (each ∙ sym (ap length same)) in
    or_from (not (is_given w (value_rows (before ++ w ∷ ws) values))) _ here (rw same at behind)

pub one_missing : (k : ℕ) (rows : List Row) (before : List Text) (w : Text) (behind : List Text) → is_given w rows ≡ false
    → list_any (is_missing rows) (rules_from k (before ++ w ∷ behind)) ≡ true
one_missing k rows [] w behind none = rw none refl
one_missing k rows (v ∷ vs) w behind none = or_right (is_missing rows (built_rule k v)) _ (one_missing (k + 1) rows vs w behind none)

-- no value has a default
cond_same : {X : Type 0} (b : Bool) (x : X) → cond b x x ≡ x
cond_same true x = refl
cond_same false x = refl

pub no_defaults : (k : ℕ) (ws : List Text) (rows : List Row) → fold with_default rows (rules_from k ws) ≡ rows
no_defaults k [] rows = refl
no_defaults k (w ∷ ws) rows =
    ap (λ rows. fold with_default rows (rules_from (k + 1) ws)) (cond_same (has_row w rows) rows) ∙ no_defaults (k + 1) ws rows

pub no_default_fails : (k : ℕ) (ws : List Text) (rows : List Row) → defaults_fault rows (rules_from k ws) ≡ []
unfolding defaults_fault
no_default_fails k [] rows = refl
no_default_fails k (w ∷ ws) rows =
    let none : (has_row w rows || true) ≡ true = or_right (has_row w rows) true refl in
    rw none (ap (λ rows. defaults_fault rows (rules_from (k + 1) ws)) (cond_same (has_row w rows) rows) ∙ no_default_fails (k + 1) ws rows)
