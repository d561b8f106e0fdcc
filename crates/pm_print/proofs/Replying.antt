-- A reply is what the members of its line say.
use Rattle.std.proofs.Common.{take, map, ◌≤◌, length, length-append, ◌≡◌, ℕ, ◌<◌, ◌^◌, List, [], ◌∷◌, ◌++◌, true, nat_lt, IsTrue, Option, None, Some, IfSome, option_and_then, unwrap_or, ◌==◌, eqb-true, refl, sym, ap, ap₂, ◌∙◌, arith, lt-ltb, inl, inr}
use Rattle.std.proofs.Math.Seq.{take-append_seam}
use Rattle.std.proofs.lemmas.Bool.{and_parts, and_from, cases_Bool}
use Rattle.std.specs.List.{list_all, zip}
use Rattle.json.proofs.Printed.Utf8.{are_ascii, IsUtf8-are_ascii}
use Rattle.serde_json.specs.Data.{Data, object, items_depth}
use Rattle.serde_json.specs.Read.{read}
use Rattle.serde_json.specs.Written.{compact_text}
use Rattle.pm_model.specs.Forms.{looking, whole_form}
use Rattle.pm_model.specs.Name.{is_name, is_name_byte}
use Rattle.pm_model.specs.Object.{present, whole, whole_if, texted}
use Rattle.pm_model.specs.Text.{text, front, back, fired_if, no_front, pair_told, count_told, change_told, refusal_word, rights_text, said, table_word, with_version}
use Rattle.pm_model.specs.Forms.{list_of}
use Rattle.pm_model.specs.Object.{items_of, listed}
use Rattle.pm_model.specs.Words.{key_text, word_text}
use Rattle.pm_model.specs.declared.words.Word.{Word}
use Rattle.pm_model.specs.declared.words.Word.TheVariants as word
use Rattle.pm_model.specs.declared.lines.BadLine.{BadLine}
use Rattle.pm_model.specs.declared.lines.BadLine.TheVariants.{TooLong, NotJson, NotRequest, UnknownCommand, BadField}
use Rattle.pm_model.specs.declared.words.Key.{Key}
use Rattle.pm_model.specs.declared.words.Key.TheVariants as key
use Rattle.pm_model.specs.declared.replies.Refusal.{Refusal}
use Rattle.pm_model.specs.declared.replies.Refusal.TheVariants as refusal
use Rattle.pm_model.specs.declared.replies.Table.TheVariants as table
use Rattle.pm_model.specs.declared.replies.Reply.{Reply}
use Rattle.pm_model.specs.declared.replies.Reply.TheVariants.{Done, Granted, Caps, Entries, Survey, Kept, Changes, Bad, Ahead, Refused, ResponseRefused, KeepFault}
use Rattle.pm_model.specs.declared.reviews.Changed.{Changed}
use Rattle.pm_model.specs.declared.reviews.Pair.{Pair}
use Rattle.pm_model.specs.declared.replies.Reason.{Reason}
use Rattle.pm_model.specs.declared.replies.Reason.TheVariants.{Class, Prohibition}
use Rattle.pm_model.specs.declared.replies.Shown as made
use Rattle.pm_model.specs.declared.replies.Shown.TheVariants as shows
use Rattle.pm_print.specs.Printable.{names_in, names_in_refusal, names_in_reason, names_of_changes, names_of_pairs, numbers_in, numbers_in_shown, rights_in, rights_of_changes, rights_of_pairs, ShowsNames, ShowsNumbers, ShowsRights, IsPrintable}
use Rattle.pm_print.specs.Spelt.{beside, keys, spelt}
use Rattle.pm_print.specs.Shown.{Shown, shown, shown_pairs, shown_counts}
use Rattle.pm_print.proofs.Fair.{IsFair, ItemsFair, read-compact}
use Rattle.pm_print.proofs.Hex.{hex_plain, hex_told}
use Rattle.pm_print.proofs.Fields.{in_order, or_none, ValueFair, ValuesFair, MembersFair-present, shallow-present, finding, looks}
use Rattle.pm_print.proofs.Members.{plain-name}
use Rattle.pm_print.proofs.Replied as replied
use Rattle.pm_print.proofs.Texts.{key_name, word_name}

-- ---- what the members say

pub number_told : (n : Option ℕ) → option_and_then whole_form (whole_if n) ≡ n
number_told None = refl
number_told (Some n) = refl

fired_told : (fired : ℕ) → unwrap_or (fired_if fired) 0 ≡ fired
fired_told fired = elim (cases_Bool (fired == 0)) [
  | inl none ↦ rw none (sym (eqb-true fired 0 none))
  | inr some ↦ rw some refl
]

refusal_told : (why : Refusal) → beside replied.refusal_words (word_text (refusal_word why)) ≡ Some (refusal_word why)
unfolding word_text
refusal_told refusal.UnknownProcess = refl
refusal_told refusal.UnknownSession = refl
refusal_told refusal.UnknownReview = refl
refusal_told (refusal.UnknownName name) = refl
refusal_told (refusal.Denied right target reason) = refl
refusal_told refusal.BadKinds = refl
refusal_told refusal.NameTaken = refl
refusal_told refusal.Already = refl
refusal_told refusal.Absent = refl
refusal_told refusal.Cycle = refl
refusal_told refusal.Occupied = refl
refusal_told refusal.InUse = refl
refusal_told refusal.LastContainer = refl
refusal_told refusal.Builtin = refl
refusal_told refusal.EmptyRange = refl
refusal_told (refusal.Full table) = refl

pub spelt_key : (k : Key) → spelt keys (key_text k) ≡ Some k
unfolding key_text
spelt_key key.Action = refl
spelt_key key.After = refl
spelt_key key.At = refl
spelt_key key.Class = refl
spelt_key key.Cmd = refl
spelt_key key.Counts = refl
spelt_key key.Do = refl
spelt_key key.Element = refl
spelt_key key.Exc = refl
spelt_key key.Field = refl
spelt_key key.Fired = refl
spelt_key key.From = refl
spelt_key key.Id = refl
spelt_key key.If = refl
spelt_key key.Inc = refl
spelt_key key.Into = refl
spelt_key key.Kind = refl
spelt_key key.List = refl
spelt_key key.Mode = refl
spelt_key key.Name = refl
spelt_key key.No = refl
spelt_key key.Obligation = refl
spelt_key key.Of = refl
spelt_key key.Ok = refl
spelt_key key.On = refl
spelt_key key.Proc = refl
spelt_key key.Process = refl
spelt_key key.Prohibition = refl
spelt_key key.Review = refl
spelt_key key.Right = refl
spelt_key key.Rights = refl
spelt_key key.Session = refl
spelt_key key.Subject = refl
spelt_key key.Table = refl
spelt_key key.Target = refl
spelt_key key.To = refl
spelt_key key.Ua = refl
spelt_key key.User = refl
spelt_key key.Users = refl
spelt_key key.V = refl
spelt_key key.When = refl
spelt_key key.Why = refl

abbrev said_as : Option ℕ → ℕ → Shown → replied.Said
said_as id v what = record { id = id; version = v; shown = what }

abbrev pub members : Option ℕ → ℕ → (ℕ → List ℕ) → Reply → List (List ℕ × Option Data)
members id v names reply = with_version v (front (record { id = id }) names reply) (back reply)

abbrev Told : Option ℕ → ℕ → (ℕ → List ℕ) → Reply → Type 0
Told id v names reply = replied.said (finding (members id v names reply)) ≡ Some (said_as id v (shown names reply))

module _ (id : Option ℕ) (v : ℕ) (names : ℕ → List ℕ) where
  told_bad : (bad : BadLine) → Told id v names (Bad bad)
  unfolding key_text word_text
  told_bad TooLong = rw (or_none (whole_if id), number_told id) refl
  told_bad NotJson = rw (or_none (whole_if id), number_told id) refl
  told_bad NotRequest = rw (or_none (whole_if id), number_told id) refl
  told_bad UnknownCommand = rw (or_none (whole_if id), number_told id) refl
  told_bad (BadField k) = let found = spelt_key k in rw (or_none (whole_if id), number_told id, found) refl

  told_denied : (right : List ℕ) (target : ℕ) (reason : Reason) → ShowsNames (right ∷ names target ∷ names_in_reason names reason)
      → Told id v names (Refused (refusal.Denied right target reason))
  unfolding key_text word_text
  told_denied right target (Class pc) h =
      let r = h.0 in let t = h.1.0 in let p = h.1.1.0 in
      rw (or_none (whole_if id), number_told id, r, t, p) refl
  told_denied right target (Prohibition name) h =
      let r = h.0 in let t = h.1.0 in let p = h.1.1.0 in
      rw (or_none (whole_if id), number_told id, r, t, p) refl

  told_refused : (why : Refusal) → ShowsNames (names_in_refusal names why) → Told id v names (Refused why)
  unfolding key_text word_text
  told_refused refusal.UnknownProcess h = rw (or_none (whole_if id), number_told id) refl
  told_refused refusal.UnknownSession h = rw (or_none (whole_if id), number_told id) refl
  told_refused refusal.UnknownReview h = rw (or_none (whole_if id), number_told id) refl
  told_refused refusal.BadKinds h = rw (or_none (whole_if id), number_told id) refl
  told_refused refusal.NameTaken h = rw (or_none (whole_if id), number_told id) refl
  told_refused refusal.Already h = rw (or_none (whole_if id), number_told id) refl
  told_refused refusal.Absent h = rw (or_none (whole_if id), number_told id) refl
  told_refused refusal.Cycle h = rw (or_none (whole_if id), number_told id) refl
  told_refused refusal.Occupied h = rw (or_none (whole_if id), number_told id) refl
  told_refused refusal.InUse h = rw (or_none (whole_if id), number_told id) refl
  told_refused refusal.LastContainer h = rw (or_none (whole_if id), number_told id) refl
  told_refused refusal.Builtin h = rw (or_none (whole_if id), number_told id) refl
  told_refused refusal.EmptyRange h = rw (or_none (whole_if id), number_told id) refl
  told_refused (refusal.UnknownName name) h = let n = h.0 in rw (or_none (whole_if id), number_told id, n) refl
  told_refused (refusal.Denied right target reason) h = told_denied right target reason h
  told_refused (refusal.Full table.Elements) h = rw (or_none (whole_if id), number_told id) refl
  told_refused (refusal.Full table.Assignments) h = rw (or_none (whole_if id), number_told id) refl
  told_refused (refusal.Full table.Associations) h = rw (or_none (whole_if id), number_told id) refl
  told_refused (refusal.Full table.Prohibitions) h = rw (or_none (whole_if id), number_told id) refl
  told_refused (refusal.Full table.Obligations) h = rw (or_none (whole_if id), number_told id) refl
  told_refused (refusal.Full table.Sessions) h = rw (or_none (whole_if id), number_told id) refl
  told_refused (refusal.Full table.Processes) h = rw (or_none (whole_if id), number_told id) refl
  told_refused (refusal.Full table.Reviews) h = rw (or_none (whole_if id), number_told id) refl
  told_refused (refusal.Full table.Rights) h = rw (or_none (whole_if id), number_told id) refl
  told_refused (refusal.Full table.History) h = rw (or_none (whole_if id), number_told id) refl

  told_done : (fired : ℕ) (what : made.Shown) → Told id v names (Done fired what)
  unfolding key_text word_text
  told_done fired shows.Nothing = rw (or_none (whole_if id), number_told id, or_none (whole_if (fired_if fired)), number_told (fired_if fired), fired_told fired) refl
  told_done fired (shows.Session n) = rw (or_none (whole_if id), number_told id, or_none (whole_if (fired_if fired)), number_told (fired_if fired), fired_told fired) refl
  told_done fired (shows.Process n) = rw (or_none (whole_if id), number_told id, or_none (whole_if (fired_if fired)), number_told (fired_if fired), fired_told fired) refl
  told_done fired (shows.Review n) = rw (or_none (whole_if id), number_told id, or_none (whole_if (fired_if fired)), number_told (fired_if fired), fired_told fired) refl

  told_response : (obligation : List ℕ) (action : ℕ) (why : Refusal) → IsTrue (is_name obligation) → Told id v names (ResponseRefused obligation action why)
  unfolding key_text word_text
  told_response obligation action why h = let w = refusal_told why in rw (or_none (whole_if id), number_told id, h, w) refl

  told_pairs : (list : List Pair) → ShowsRights (rights_of_pairs list) →
      list_of replied.pair_read (items_of (map (pair_told names) list)) ≡ Some (shown_pairs names list)
  told_pairs [] m = refl
  told_pairs (p ∷ ps) m = let here = hex_told p.rights m.0 in let rest = told_pairs ps m.1 in rw (here, rest) refl

  told_counts : (counts : List (ℕ × ℕ)) → list_of replied.count_read (items_of (map (count_told names) counts)) ≡ Some (shown_counts names counts)
  told_counts [] = refl
  told_counts (c ∷ cs) = let rest = told_counts cs in rw rest refl

  told_changes : (list : List Changed) → ShowsRights (rights_of_changes list) → list_of replied.change_read (items_of (map change_told list)) ≡ Some list
  told_changes [] m = refl
  told_changes (c ∷ cs) m =
      let was = hex_told c.old m.0 in
      let is = hex_told c.new m.1.0 in
      let rest = told_changes cs m.1.1 in
      rw (was, is, rest) refl

  told : (reply : Reply) → ShowsRights (rights_in reply) → ShowsNames (names_in names reply) → Told id v names reply
  unfolding key_text word_text
  told (Done fired what) m h = told_done fired what
  told (Caps list) m h = let t = told_pairs list m in rw (or_none (whole_if id), number_told id, t) refl
  told (Entries list) m h = let t = told_pairs list m in rw (or_none (whole_if id), number_told id, t) refl
  told (Survey users counts) m h = let t = told_counts (zip users counts) in rw (or_none (whole_if id), number_told id, t) refl
  told (Kept list) m h = let t = told_pairs list m in rw (or_none (whole_if id), number_told id, t) refl
  told (Changes at list) m h = let t = told_changes list m in rw (or_none (whole_if id), number_told id, t) refl
  told (Granted fired) m h = rw (or_none (whole_if id), number_told id, or_none (whole_if (fired_if fired)), number_told (fired_if fired), fired_told fired) refl
  told (Bad bad) m h = told_bad bad
  told Ahead m h = rw (or_none (whole_if id), number_told id) refl
  told (Refused why) m h = told_refused why h
  told (ResponseRefused obligation action why) m h = told_response obligation action why h.0
  told KeepFault m h = rw (or_none (whole_if id), number_told id) refl

-- ---- the members are fair

ascii_byte : (x : ℕ) → is_name_byte x ≡ true → nat_lt x 128 ≡ true
ascii_byte x h = lt-ltb x 128 (grind arith)

pub ascii_plain : (s : List ℕ) → list_all is_name_byte s ≡ true → are_ascii s ≡ true
ascii_plain [] h = refl
ascii_plain (x ∷ s) h =
    let p = and_parts (is_name_byte x) (list_all is_name_byte s) h in
    and_from (nat_lt x 128) (are_ascii s) (ascii_byte x p.0) (ascii_plain s p.1)

fair-plain : (s : List ℕ) → list_all is_name_byte s ≡ true → ValueFair (texted s)
fair-plain s h = (IsUtf8-are_ascii s (ascii_plain s h), omega arith)

fair-said : (w : Word) → ValueFair (said w)
fair-said w = fair-plain (word_text w) (plain-name (word_text w) (word_name w))

fair-number : (n : Option ℕ) → IfSome n (λ n. n < 2 ^ 64) → ValueFair (whole_if n)
fair-number None h = tt
fair-number (Some n) h = (h, omega arith)

-- the items of lists
fair-pairs : (names : ℕ → List ℕ) (list : List Pair) → ShowsNames (names_of_pairs names list) → ItemsFair (items_of (map (pair_told names) list))
fair-pairs names [] h = tt
fair-pairs names (p ∷ ps) h = (
  (
    IsUtf8-are_ascii (names p.element) (ascii_plain (names p.element) (plain-name (names p.element) h.0)),
    (IsUtf8-are_ascii (rights_text p.rights) (ascii_plain (rights_text p.rights) (hex_plain p.rights)), tt),
  ),
  fair-pairs names ps h.1,
)

fair-changes : (list : List Changed) → ShowsNames (names_of_changes list) → ItemsFair (items_of (map change_told list))
fair-changes [] h = tt
fair-changes (c ∷ cs) h = (
  (
    IsUtf8-are_ascii c.name (ascii_plain c.name (plain-name c.name h.0)),
    (
      IsUtf8-are_ascii (rights_text c.old) (ascii_plain (rights_text c.old) (hex_plain c.old)),
      (IsUtf8-are_ascii (rights_text c.new) (ascii_plain (rights_text c.new) (hex_plain c.new)), tt),
    ),
  ),
  fair-changes cs h.1,
)

fair-counts : (names : ℕ → List ℕ) (users counts : List ℕ) → ShowsNames (map names users) → ShowsNumbers counts →
    ItemsFair (items_of (map (count_told names) (zip users counts)))
fair-counts names [] counts h m = tt
fair-counts names (u ∷ us) [] h m = tt
fair-counts names (u ∷ us) (n ∷ ns) h m =
    ((IsUtf8-are_ascii (names u) (ascii_plain (names u) (plain-name (names u) h.0)), (m.0, tt)), fair-counts names us ns h.1 m.1)

pairs_shallow : (names : ℕ → List ℕ) (list : List Pair) → items_depth (items_of (map (pair_told names) list)) ≤ 1
pairs_shallow names [] = omega arith
pairs_shallow names (p ∷ ps) = let rest = pairs_shallow names ps in omega (arith, rest)

changes_shallow : (list : List Changed) → items_depth (items_of (map change_told list)) ≤ 1
changes_shallow [] = omega arith
changes_shallow (c ∷ cs) = let rest = changes_shallow cs in omega (arith, rest)

counts_shallow : (names : ℕ → List ℕ) (counts : List (ℕ × ℕ)) → items_depth (items_of (map (count_told names) counts)) ≤ 1
counts_shallow names [] = omega arith
counts_shallow names (c ∷ cs) = let rest = counts_shallow names cs in omega (arith, rest)

pairs-fair : (names : ℕ → List ℕ) (list : List Pair) → ShowsNames (names_of_pairs names list) → ValueFair (Some (listed (map (pair_told names) list)))
pairs-fair names list h = let shallow = pairs_shallow names list in (fair-pairs names list h, omega (arith, shallow))

changes-fair : (list : List Changed) → ShowsNames (names_of_changes list) → ValueFair (Some (listed (map change_told list)))
changes-fair list h = let shallow = changes_shallow list in (fair-changes list h, omega (arith, shallow))

counts-fair : (names : ℕ → List ℕ) (users counts : List ℕ) → ShowsNames (map names users) → ShowsNumbers counts →
    ValueFair (Some (listed (map (count_told names) (zip users counts))))
counts-fair names users counts h m = let shallow = counts_shallow names (zip users counts) in (fair-counts names users counts h m, omega (arith, shallow))

fair-fired : (fired : ℕ) → fired < 2 ^ 64 → ValueFair (whole_if (fired_if fired))
fair-fired fired h = elim (cases_Bool (fired == 0)) [
  | inl none ↦ rw none tt
  | inr some ↦ rw some (h, omega arith)
]

module _ (id : Option ℕ) (v : ℕ) (names : ℕ → List ℕ) where
  ordered_bad : (bad : BadLine) → in_order (members id v names (Bad bad)) ≡ true
  unfolding key_text
  ordered_bad TooLong = refl
  ordered_bad NotJson = refl
  ordered_bad NotRequest = refl
  ordered_bad UnknownCommand = refl
  ordered_bad (BadField k) = refl

  ordered_refused : (why : Refusal) → in_order (members id v names (Refused why)) ≡ true
  unfolding key_text
  ordered_refused refusal.UnknownProcess = refl
  ordered_refused refusal.UnknownSession = refl
  ordered_refused refusal.UnknownReview = refl
  ordered_refused refusal.BadKinds = refl
  ordered_refused refusal.NameTaken = refl
  ordered_refused refusal.Already = refl
  ordered_refused refusal.Absent = refl
  ordered_refused refusal.Cycle = refl
  ordered_refused refusal.Occupied = refl
  ordered_refused refusal.InUse = refl
  ordered_refused refusal.LastContainer = refl
  ordered_refused refusal.Builtin = refl
  ordered_refused refusal.EmptyRange = refl
  ordered_refused (refusal.UnknownName name) = refl
  ordered_refused (refusal.Denied right target reason) = refl
  ordered_refused (refusal.Full t) = refl

  ordered : (reply : Reply) → in_order (members id v names reply) ≡ true
  unfolding key_text
  ordered (Done fired what) = refl
  ordered (Granted fired) = refl
  ordered (Caps list) = refl
  ordered (Entries list) = refl
  ordered (Survey users counts) = refl
  ordered (Kept list) = refl
  ordered (Changes at list) = refl
  ordered (Bad bad) = ordered_bad bad
  ordered Ahead = refl
  ordered (Refused why) = ordered_refused why
  ordered (ResponseRefused obligation action why) = refl
  ordered KeepFault = refl

-- the numbers of a line, and the names of elements
module _ (id : Option ℕ) (v : ℕ) (names : ℕ → List ℕ) (i : IfSome id (λ n. n < 2 ^ 64)) (n : v < 2 ^ 64) where
  fair_version : ValueFair (whole v)
  fair_version = (n, omega arith)

  fair-name : (s : List ℕ) → IsTrue (is_name s) → ValueFair (texted s)
  fair-name s h = fair-plain s (plain-name s h)

  fair_no : (w : Word) → ValuesFair (with_version v (no_front (record { id = id }) w) [])
  fair_no w = (fair-number id i, (fair-said w, (fair_version, tt)))

  fair_bad : (bad : BadLine) → ValuesFair (members id v names (Bad bad))
  fair_bad TooLong = fair_no word.TooLong
  fair_bad NotJson = fair_no word.NotJson
  fair_bad NotRequest = fair_no word.NotRequest
  fair_bad UnknownCommand = fair_no word.UnknownCommand
  fair_bad (BadField k) = (fair-name (key_text k) (key_name k), fair_no word.BadField)

  fair_denied : (right : List ℕ) (target : ℕ) (reason : Reason) → ShowsNames (right ∷ names target ∷ names_in_reason names reason)
      → ValuesFair (members id v names (Refused (refusal.Denied right target reason)))
  fair_denied right target (Class pc) h =
      (fair-name (names pc) h.1.1.0, (fair-number id i, (fair-said word.Denied, (tt, (fair-name right h.0, (fair-name (names target) h.1.0, (fair_version, tt)))))))
  fair_denied right target (Prohibition name) h =
      (tt, (fair-number id i, (fair-said word.Denied, (fair-name name h.1.1.0, (fair-name right h.0, (fair-name (names target) h.1.0, (fair_version, tt)))))))

  fair_refused : (why : Refusal) → ShowsNames (names_in_refusal names why) → ValuesFair (members id v names (Refused why))
  fair_refused refusal.UnknownProcess h = fair_no word.UnknownProcess
  fair_refused refusal.UnknownSession h = fair_no word.UnknownSession
  fair_refused refusal.UnknownReview h = fair_no word.UnknownReview
  fair_refused refusal.BadKinds h = fair_no word.BadKinds
  fair_refused refusal.NameTaken h = fair_no word.NameTaken
  fair_refused refusal.Already h = fair_no word.Already
  fair_refused refusal.Absent h = fair_no word.Absent
  fair_refused refusal.Cycle h = fair_no word.Cycle
  fair_refused refusal.Occupied h = fair_no word.Occupied
  fair_refused refusal.InUse h = fair_no word.InUse
  fair_refused refusal.LastContainer h = fair_no word.LastContainer
  fair_refused refusal.Builtin h = fair_no word.Builtin
  fair_refused refusal.EmptyRange h = fair_no word.EmptyRange
  fair_refused (refusal.UnknownName name) h = (fair-number id i, (fair-name name h.0, (fair-said word.UnknownName, (fair_version, tt))))
  fair_refused (refusal.Denied right target reason) h = fair_denied right target reason h
  fair_refused (refusal.Full t) h = (fair-number id i, (fair-said word.Full, (fair-said (table_word t), (fair_version, tt))))

  fair_done : (fired : ℕ) (what : made.Shown) → ShowsNumbers (fired ∷ numbers_in_shown what) → ValuesFair (members id v names (Done fired what))
  fair_done fired shows.Nothing m = (fair-fired fired m.0, (fair-number id i, (fair-said word.Done, (tt, (tt, (tt, (fair_version, tt)))))))
  fair_done fired (shows.Session n) m = (fair-fired fired m.0, (fair-number id i, (fair-said word.Done, (tt, (tt, (fair-number (Some n) m.1.0, (fair_version, tt)))))))
  fair_done fired (shows.Process n) m = (fair-fired fired m.0, (fair-number id i, (fair-said word.Done, (fair-number (Some n) m.1.0, (tt, (tt, (fair_version, tt)))))))
  fair_done fired (shows.Review n) m = (fair-fired fired m.0, (fair-number id i, (fair-said word.Done, (tt, (fair-number (Some n) m.1.0, (tt, (fair_version, tt)))))))

  fair : (reply : Reply) → ShowsNumbers (numbers_in reply) → ShowsNames (names_in names reply) → ValuesFair (members id v names reply)
  fair (Done fired what) m h = fair_done fired what m
  fair (Granted fired) m h = (fair-fired fired m.0, (fair-number id i, (fair-said word.Granted, (fair_version, tt))))
  fair (Caps list) m h = (fair-number id i, (pairs-fair names list h, (fair-said word.Caps, (fair_version, tt))))
  fair (Entries list) m h = (fair-number id i, (pairs-fair names list h, (fair-said word.Entries, (fair_version, tt))))
  fair (Survey users counts) m h = (counts-fair names users counts h m, (fair-number id i, (fair-said word.Survey, (fair_version, tt))))
  fair (Kept list) m h = (fair-number id i, (pairs-fair names list h, (fair-said word.Kept, (fair_version, tt))))
  fair (Changes at list) m h = (fair-number (Some at) m.0, (fair-number id i, (changes-fair list h, (fair-said word.Changes, (fair_version, tt)))))
  fair (Bad bad) m h = fair_bad bad
  fair Ahead m h = fair_no word.Ahead
  fair (Refused why) m h = fair_refused why h
  fair (ResponseRefused obligation action why) m h =
      ((m.0, omega arith), (fair-number id i, (fair-said word.ResponseRefused, (fair-name obligation h.0, (fair_version, (fair-said (refusal_word why), tt))))))
  fair KeepFault m h = fair_no word.KeepFault

-- ---- the whole line

abbrev pub data_of : Option ℕ → ℕ → (ℕ → List ℕ) → Reply → Data
data_of id v names reply = object (present (members id v names reply))

-- what a text that may have been read says
abbrev said_in : Option Data → Option replied.Said
said_in o = option_and_then (λ d. replied.said (looking d)) o

module _ (id : Option ℕ) (v : ℕ) (names : ℕ → List ℕ) (reply : Reply) (p : IsPrintable id v names reply) where
  fair-values : ValuesFair (members id v names reply)
  fair-values = fair id v names p.id_fits p.version_fits reply p.numbers_fit p.named

  pub fair-line : IsFair (data_of id v names reply)
  fair-line = MembersFair-present (members id v names reply) (ordered id v names reply) fair-values

  -- the line without its line feed is read as the members
  pub read-line : read (compact_text (data_of id v names reply)) ≡ Some (data_of id v names reply)
  read-line = let shallow = shallow-present (members id v names reply) fair-values in read-compact (data_of id v names reply) fair-line (omega (arith, shallow))

  said-line : said_in (read (compact_text (data_of id v names reply))) ≡ Some (said_as id v (shown names reply))
  said-line = ap said_in read-line ∙ ap replied.said (looks (members id v names reply)) ∙ told id v names reply p.rights_fit p.named

-- what stands before a line feed
pub cut_feed : (xs ys : List ℕ) → xs ++ 10 ∷ [] ≡ ys ++ 10 ∷ [] → xs ≡ ys
cut_feed xs ys e =
    let whole = ap length e in
    let a = length-append xs (10 ∷ []) in
    let b = length-append ys (10 ∷ []) in
    let n : length xs ≡ length ys = omega (arith, whole, a, b) in
    sym (take-append_seam xs (10 ∷ [])) ∙ ap₂ take n e ∙ take-append_seam ys (10 ∷ [])

same_said : (id jd : Option ℕ) (v w : ℕ) (names others : ℕ → List ℕ) (reply other : Reply) → IsPrintable id v names reply → IsPrintable jd w others other
    → compact_text (data_of id v names reply) ≡ compact_text (data_of jd w others other) → Some (said_as id v (shown names reply)) ≡ Some (said_as jd w (shown others other))
same_said id jd v w names others reply other p q e =
    sym (said-line id v names reply p) ∙ ap (λ t. said_in (read t)) e ∙ said-line jd w others other q

pub line_has_one_meaning : (id jd : Option ℕ) (v w : ℕ) (names others : ℕ → List ℕ) (reply other : Reply) → IsPrintable id v names reply → IsPrintable jd w others other
    → text id v names reply ≡ text jd w others other → (id ≡ jd) × (v ≡ w) × (shown names reply ≡ shown others other)
line_has_one_meaning id jd v w names others reply other p q e =
    let same = same_said id jd v w names others reply other p q (cut_feed (compact_text (data_of id v names reply)) (compact_text (data_of jd w others other)) e) in
    let r = ap (λ o. unwrap_or o (said_as id v (shown names reply))) same in
    (ap (λ (s : replied.Said). s.id) r, ap (λ (s : replied.Said). s.version) r, ap (λ (s : replied.Said). s.shown) r)
