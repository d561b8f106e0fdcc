-- What a word asks for, by the values that it has.
use Rattle.std.proofs.Common.{◌≡◌, ◌∙◌, ◌<◌, ◌≤◌, ℕ, Bool, true, false, not, List, [], ◌∷◌, ◌++◌, Option, None, Some, append_assoc, arith, refl, sym, ap, ap₂, subst, is_some, length, length-append, map, option_map, true≢false}
use Rattle.std.specs.Prelude.{◌↔◌, ◌≢◌, ⊤, Box, codes, decimal}
use Rattle.std.specs.Box.{box_value}
use Rattle.std.specs.List.{list_any}
use Rattle.std.specs.Option.{IsSomeAnd}
use Rattle.std.specs.Str.{bytes_eq}
use Rattle.std.specs.Cmp.Lexicographic.{same_text}
use Rattle.std.proofs.lemmas.Bool.{or_parts}
use Rattle.clap.specs.Walk.{Row, Text, first_of, rows_of}
use Rattle.clap.specs.Words.{first_value, found_of, has_subcommand, subcommand_name_of, subcommand_rows, subcommand_rows_of}
use Rattle.clap.specs.declared.parser.matches.ArgMatches.{ArgMatches}
use Rattle.clap.specs.declared.parser.matches.ArgMatches.TheViews.{out-ArgMatches, out-SubCommand}
use Rattle.clap.specs.declared.parser.matches.SubCommand.{SubCommand}
use Rattle.clap.specs.declared.parser.matches.Found.{Found}
use Rattle.clap.proofs.SimpleLemmas.{is_false}
use Rattle.clap.proofs.WalkLemmas.{both, first_value-rows}
use Rattle.pm_words.specs.Lists.{Wanted, Entry, labels_of}
use Rattle.pm_words.specs.declared.grammar.TheConstants.{FILE, PORT, SIZE, WORKERS}
use Rattle.pm_words.specs.Told.{IsText, IsValue, Tells, value_rows}
use Rattle.pm_words.specs.Words.{AreTexts, AreWithin, Says, IsRun, IsGenerate, IsServe, IsServeJournal, IsRequestLines, IsExport, IsOther, entry_named, is_flag}
use Rattle.pm_words.proofs.Asking.{well_made}
use Rattle.pm_words.proofs.Behind.{IsFlagless, are_apart, rest_flagless}
use Rattle.pm_words.proofs.Placed.{has_label, same_bytes}

-- ---- the value of each name

first_row : (before given : List Text) (label : Text) (labels : List Text) (value : Text) (values : List Text) → length given ≡ length before
    → has_label label before ≡ false → first_of label (value_rows (before ++ label ∷ labels) (given ++ value ∷ values)) ≡ Some value
first_row [] [] label labels value values each new = rw (same_bytes label) refl
first_row [] (x ∷ given) label labels value values each new = absurd (omega (arith, each))
first_row (v ∷ before) [] label labels value values each new = absurd (omega (arith, each))
first_row (v ∷ before) (x ∷ given) label labels value values each new =
    let parts = or_parts (bytes_eq v label) (has_label label before) new in
    let behind : length given ≡ length before = omega (arith, each) in
    rw (parts.0) (first_row before given label labels value values behind parts.1)

-- these values stand behind those before, each under its own name
record HaveRows (found : Found) (before labels given values : List Text) : Type 0 where
  pub apart : are_apart before labels ≡ true
  pub past : length given ≡ length before
  pub each : length values ≡ length labels
  pub rows : rows_of found ≡ value_rows (before ++ labels) (given ++ values)

module _ (found : Found) (before : List Text) (label : Text) (labels given : List Text) (value : Text) (values : List Text)
    (h : HaveRows found before (label ∷ labels) given (value ∷ values)) where
  apart : (not (has_label label before) ≡ true) × (are_apart (before ++ label ∷ []) labels ≡ true)
  apart = both (not (has_label label before)) (are_apart (before ++ label ∷ []) labels) h.apart

  first_is : first_value found label ≡ Some value
  first_is =
      first_value-rows found label ∙ ap (first_of label) h.rows
      ∙ first_row before given label labels value values h.past (is_false (has_label label before) apart.0)

  rest : HaveRows found (before ++ label ∷ []) labels (given ++ value ∷ []) values
  rest =
      let longer = length-append before (label ∷ []) in
      let values_longer = length-append given (value ∷ []) in
      record {
        apart = apart.1;
        past = omega (arith, h.past, longer, values_longer);
        each = omega (arith, h.each);
        rows = h.rows ∙ ap₂ value_rows (sym (append_assoc before (label ∷ []) labels)) (sym (append_assoc given (value ∷ []) values));
      }

-- the first value of each name
abbrev AreFirst : Found → List Text → List Text → Type 0
AreFirst found [] [] = ⊤
AreFirst found [] (v ∷ vs) = ⊥
AreFirst found (l ∷ ls) [] = ⊥
AreFirst found (l ∷ ls) (v ∷ vs) = (first_value found l ≡ Some v) × AreFirst found ls vs

are_first : (found : Found) (before labels given values : List Text) → HaveRows found before labels given values → AreFirst found labels values
are_first found before [] given [] h = tt
are_first found before [] given (v ∷ vs) h = absurd (omega (arith, h.each))
are_first found before (l ∷ ls) given [] h = absurd (omega (arith, h.each))
are_first found before (l ∷ ls) given (v ∷ vs) h =
    (first_is found before l ls given v vs h, are_first found (before ++ l ∷ []) ls (given ++ v ∷ []) vs (rest found before l ls given v vs h))

-- ---- the numbers and the texts that are read

-- each of the wanted numbers was read
abbrev pub AreRead : Found → List Wanted → List ℕ → Type 0
AreRead found [] [] = ⊤
AreRead found [] (n ∷ ns) = ⊥
AreRead found (w ∷ ws) [] = ⊥
AreRead found (w ∷ ws) (n ∷ ns) = IsValue found w n × AreRead found ws ns

-- each of the wanted texts was
abbrev pub AreGiven : Found → List Text → List Text → Type 0
AreGiven found [] [] = ⊤
AreGiven found [] (t ∷ ts) = ⊥
AreGiven found (l ∷ ls) [] = ⊥
AreGiven found (l ∷ ls) (t ∷ ts) = IsText found l t × AreGiven found ls ts

abbrev label_of : Wanted → Text
label_of wanted = wanted.label

-- what was read is what the values say
texts_are : (found : Found) (labels values texts : List Text) → AreFirst found labels values → IsFlagless values → AreGiven found labels texts
    → (values ≡ texts) × AreTexts labels texts
texts_are found [] [] [] first clean given = (refl, tt)
texts_are found [] values (t ∷ ts) first clean given = absurd given
texts_are found [] (v ∷ vs) [] first clean given = absurd first
texts_are found (l ∷ ls) values [] first clean given = absurd given
texts_are found (l ∷ ls) [] (t ∷ ts) first clean given = absurd first
texts_are found (l ∷ ls) (v ∷ vs) (t ∷ ts) first clean given =
    let here = first.0 in
    let is = given.0 in
    let same : v ≡ t = cc (here, is.0) in
    let parts = or_parts (is_flag v) (list_any is_flag vs) clean in
    let behind = texts_are found ls vs ts first.1 parts.1 given.1 in
    let plain = subst (λ (x : Text). is_flag x ≡ false) same parts.0 in
    (ap₂ (λ (x : Text) (xs : List Text). x ∷ xs) same behind.0, (is.1, plain, behind.1))

all_are : (found : Found) (ws : List Wanted) (labels values : List Text) (numbers : List ℕ) (texts : List Text) → AreFirst found (map label_of ws ++ labels) values
    → IsFlagless values → AreRead found ws numbers → AreGiven found labels texts → (values ≡ map decimal numbers ++ texts) × (AreWithin ws numbers × AreTexts labels texts)
all_are found [] labels values [] texts first clean read given =
    let are = texts_are found labels values texts first clean given in
    (are.0, (tt, are.1))
all_are found [] labels values (n ∷ ns) texts first clean read given = absurd read
all_are found (w ∷ ws) labels values [] texts first clean read given = absurd read
all_are found (w ∷ ws) labels [] (n ∷ ns) texts first clean read given = absurd first
all_are found (w ∷ ws) labels (v ∷ vs) (n ∷ ns) texts first clean read given =
    let here = first.0 in
    let is = read.0 in
    let same : v ≡ decimal n = cc (here, is.0) in
    let plain = (or_parts (is_flag v) (list_any is_flag vs) clean).1 in
    let behind = all_are found ws labels vs ns texts first.1 plain read.1 given in
    let all = behind.1 in
    (ap₂ (λ (x : Text) (xs : List Text). x ∷ xs) same behind.0, ((is.1, is.2, all.0), all.1))

-- and what the values say is read
are_given : (found : Found) (labels texts : List Text) → AreFirst found labels texts → AreTexts labels texts → AreGiven found labels texts
are_given found [] [] first are = tt
are_given found [] (t ∷ ts) first are = absurd are
are_given found (l ∷ ls) [] first are = absurd are
are_given found (l ∷ ls) (t ∷ ts) first are = ((first.0, are.0), are_given found ls ts first.1 are.2)

are_read : (found : Found) (ws : List Wanted) (labels values : List Text) (numbers : List ℕ) (texts : List Text) → AreFirst found (map label_of ws ++ labels) values
    → values ≡ map decimal numbers ++ texts → AreWithin ws numbers → AreTexts labels texts → AreRead found ws numbers × AreGiven found labels texts
are_read found [] labels values [] texts first same within are = (tt, are_given found labels texts (subst (AreFirst found labels) same first) are)
are_read found [] labels values (n ∷ ns) texts first same within are = absurd within
are_read found (w ∷ ws) labels values [] texts first same within are = absurd within
are_read found (w ∷ ws) labels [] (n ∷ ns) texts first same within are = absurd first
are_read found (w ∷ ws) labels (v ∷ vs) (n ∷ ns) texts first same within are =
    let here : v ≡ decimal n = cc same in
    let behind : vs ≡ map decimal ns ++ texts = cc same in
    let all = are_read found ws labels vs ns texts first.1 behind within.2 are in
    (((first.0 ∙ ap Some here, within.0, within.1), all.0), all.1)

-- ---- what the words say

abbrev wanted_in : Option Entry → List Wanted
wanted_in None = []
wanted_in (Some entry) = entry.wanted

abbrev texts_in : Option Entry → List Text
texts_in None = []
texts_in (Some entry) = entry.texts

-- the numbers that stand behind the word of this name, and the texts behind these
abbrev pub wanted_by : Text → List Wanted
wanted_by name = wanted_in (entry_named name)

abbrev pub texts_by : Text → List Text
texts_by name = texts_in (entry_named name)

module _ (words : List Text) (name : Text) (found : Found) (t : Tells words name (rows_of found)) where
  wanted : t.entry.wanted ≡ wanted_by name
  wanted = sym (ap wanted_in t.named)

  labels : t.entry.texts ≡ texts_by name
  labels = sym (ap texts_in t.named)

  have_rows : HaveRows found [] (labels_of t.entry) [] t.values
  have_rows = record { apart = (well_made name t.entry t.named).1.apart; past = refl; each = t.each; rows = t.found }

  first : AreFirst found (labels_of t.entry) t.values
  first = are_first found [] (labels_of t.entry) [] t.values have_rows

  clean : IsFlagless t.values
  clean = rest_flagless name t.values (subst IsFlagless t.told t.plain)

  -- what was read is said
  pub said_by : (numbers : List ℕ) (texts : List Text) → AreRead found (wanted_by name) numbers → AreGiven found (texts_by name) texts → Says words name numbers texts
  said_by numbers texts read given =
      let numbered = subst (λ ws. AreRead found ws numbers) (sym wanted) read in
      let named = subst (λ ls. AreGiven found ls texts) (sym labels) given in
      let told = all_are found t.entry.wanted t.entry.texts t.values numbers texts first clean numbered named in
      let is = t.named in
      record { told = t.told ∙ ap (λ values. name ∷ values) told.0; listed = rw is told.1 }

  -- whatever the words say is read
  read_by : (other : Text) (numbers : List ℕ) (texts : List Text) → Says words other numbers texts
      → AreRead found (wanted_by name) numbers × AreGiven found (texts_by name) texts
  read_by other numbers texts says =
      let same : other ≡ name = cc (t.told, says.told) in
      let values : t.values ≡ map decimal numbers ++ texts = cc (t.told, says.told) in
      let IsBehind : Option Entry → Type 0 = λ o. IsSomeAnd o (λ entry. AreWithin entry.wanted numbers × AreTexts entry.texts texts) in
      let behind = subst IsBehind (ap entry_named same ∙ t.named) says.listed in
      let all = are_read found t.entry.wanted t.entry.texts t.values numbers texts first values behind.0 behind.1 in
      (subst (λ ws. AreRead found ws numbers) wanted all.0, subst (λ ls. AreGiven found ls texts) labels all.1)

  -- where it can't all be read, the words say nothing
  pub other_by : ((numbers : List ℕ) (texts : List Text) → AreRead found (wanted_by name) numbers → AreGiven found (texts_by name) texts → ⊥) → IsOther words
  other_by none other numbers texts says =
      let all = read_by other numbers texts says in
      none numbers texts all.0 all.1

-- a value that is no number within its bounds
abbrev pub NoValue : Found → Wanted → Type 0
NoValue found wanted = (n : ℕ) → (◌≡◌ {A = Option ℕ} None (Some n)) ↔ IsValue found wanted n

pub fails_at : (found : Found) (before : List Wanted) (w : Wanted) (ws : List Wanted) (numbers : List ℕ) → NoValue found w → AreRead found (before ++ w ∷ ws) numbers → ⊥
fails_at found [] w ws [] none read = absurd read
fails_at found [] w ws (n ∷ ns) none read = absurd (cc ((none n).1 read.0))
fails_at found (v ∷ before) w ws [] none read = absurd read
fails_at found (v ∷ before) w ws (n ∷ ns) none read = fails_at found before w ws ns none read.1

-- a value that is empty
abbrev pub NoText : Found → Text → Type 0
NoText found label = (t : Text) → (◌≡◌ {A = Option Text} None (Some t)) ↔ IsText found label t

pub fails_text : (found : Found) (label : Text) (labels texts : List Text) → NoText found label → AreGiven found (label ∷ labels) texts → ⊥
fails_text found label labels [] none given = absurd given
fails_text found label labels (t ∷ ts) none given = absurd (cc ((none t).1 given.0))

-- ---- the words that there are

abbrev pub size : Wanted
size = record { label = SIZE.0.now; least = SIZE.1; most = SIZE.2 }

abbrev pub port : Wanted
port = record { label = PORT.0.now; least = PORT.1; most = PORT.2 }

abbrev pub workers : Wanted
workers = record { label = WORKERS.0.now; least = WORKERS.1; most = WORKERS.2 }

abbrev pub file : Text
file = FILE.now

pub run_written_out : (words : List Text) → IsRun words ↔ (words ≡ codes "run" ∷ [])
run_written_out words = ((λ is. is.told), (λ told. record { told = told; listed = (tt, tt) }))

pub generate_written_out : (words : List Text) (n : ℕ) → IsGenerate words n
    ↔ ((words ≡ codes "generate" ∷ decimal n ∷ []) × (0 < n) × (n ≤ 200))
generate_written_out words n = (
  (λ is. let listed : AreWithin (size ∷ []) (n ∷ []) × AreTexts [] [] = is.listed in
      let within = listed.0 in (is.told, omega (arith, within.0), within.1)),
  (λ is. record { told = is.0; listed = ((omega (arith, is.1), is.2, tt), tt) }),
)

pub serve_written_out : (words : List Text) (p w : ℕ) → IsServe words p w
    ↔ ((words ≡ codes "serve" ∷ decimal p ∷ decimal w ∷ []) × (p < 65536) × (0 < w) × (w ≤ 32))
serve_written_out words p w = (
  (λ is. let listed : AreWithin (port ∷ workers ∷ []) (p ∷ w ∷ []) × AreTexts [] [] = is.listed in
      let within = listed.0 in (is.told, omega (arith, within.1), omega (arith, within.2.0), within.2.1)),
  (λ is. record { told = is.0; listed = ((omega arith, omega (arith, is.1), (omega (arith, is.2), is.3, tt)), tt) }),
)

pub serve_journal_written_out : (words : List Text) (p w : ℕ) (f : Text) → IsServeJournal words p w f
    ↔ ((words ≡ codes "serve-journal" ∷ decimal p ∷ decimal w ∷ f ∷ []) × (p < 65536) × (0 < w) × (w ≤ 32) × (f ≢ []) × (is_flag f ≡ false))
serve_journal_written_out words p w f = (
  (λ is. let listed : AreWithin (port ∷ workers ∷ []) (p ∷ w ∷ []) × AreTexts (file ∷ []) (f ∷ []) = is.listed in
      let within = listed.0 in let are = listed.1 in (is.told, omega (arith, within.1), omega (arith, within.2.0), within.2.1, are.0, are.1)),
  (λ is. record { told = is.0; listed = ((omega arith, omega (arith, is.1), (omega (arith, is.2), is.3, tt)), (is.4, is.5, tt)) }),
)

pub request_lines_written_out : (words : List Text) → IsRequestLines words ↔ (words ≡ codes "request-lines" ∷ [])
request_lines_written_out words = ((λ is. is.told), (λ told. record { told = told; listed = (tt, tt) }))

pub export_written_out : (words : List Text) → IsExport words ↔ (words ≡ codes "export" ∷ [])
export_written_out words = ((λ is. is.told), (λ told. record { told = told; listed = (tt, tt) }))

differs : (a b : Text) → (b ≡ a → ⊥) → bytes_eq a b ≡ false
differs a b other = by_test (bytes_eq a b) refl
  where
    by_test : (t : Bool) → bytes_eq a b ≡ t → bytes_eq a b ≡ false
    by_test true same = absurd (other (sym (same_text a b (sym same))))
    by_test false apart = apart

-- a word that there is has one of the names
pub other_told : (words : List Text) (name : Text) (rows : List Row) → Tells words name rows → (name ≡ codes "run" → ⊥) → (name ≡ codes "generate" → ⊥)
    → (name ≡ codes "serve" → ⊥) → (name ≡ codes "serve-journal" → ⊥) → (name ≡ codes "request-lines" → ⊥) → (name ≡ codes "export" → ⊥) → ⊥
other_told words name rows t run generate serve serve_journal request_lines export =
    let r = differs (codes "run") name run in
    let g = differs (codes "generate") name generate in
    let s = differs (codes "serve") name serve in
    let j = differs (codes "serve-journal") name serve_journal in
    let l = differs (codes "request-lines") name request_lines in
    let x = differs (codes "export") name export in
    let none : entry_named name ≡ None = rw (r, g, s, j, l, x) refl in
    let some = t.named in
    absurd (cc (none, some))

-- ---- the subcommand that was met

pub none_met : (m : ArgMatches) → false ≡ has_subcommand m → subcommand_rows_of m ≡ None
none_met m none = by_met (out-ArgMatches m).subcommand none
  where
    by_met : {Z : Type 0} (o : Option (Box SubCommand Z)) → false ≡ is_some o → subcommand_rows o ≡ None
    by_met None none = refl
    by_met (Some x) none = absurd (true≢false (sym none))

both_parts : {X : Type 0} (o : Option X) (f : X → Text) (g : X → List Row) (name : Text) (rows : List Row) → Some name ≡ option_map f o
    → Some rows ≡ option_map (λ (p : Text × List Row). p.1) (option_map {U = Text × List Row} (λ x. (f x, g x)) o) → option_map {U = Text × List Row} (λ x. (f x, g x)) o ≡ Some (name, rows)
both_parts None f g name rows named given = absurd (cc named)
both_parts (Some x) f g name rows named given =
    let first : f x ≡ name = cc named in
    let second : g x ≡ rows = cc given in
    ap₂ (λ (n : Text) (rs : List Row). Some (n, rs)) first second

pub met_is : (m : ArgMatches) (name : Text) (rows : List Row) → Some name ≡ subcommand_name_of m → Some rows ≡ option_map (λ p. p.1) (subcommand_rows_of m)
    → subcommand_rows_of m ≡ Some (name, rows)
met_is m name rows named given =
    both_parts (out-ArgMatches m).subcommand (λ b. (out-SubCommand (box_value b)).name.now) (λ b. rows_of (found_of (out-SubCommand (box_value b)).matches)) name rows
    named given
