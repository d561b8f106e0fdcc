-- How long the line of a reply may be.
use Rattle.std.proofs.Common.{◌≤◌, ◌<◌, ◌^◌, ◌+◌, ◌*◌, max, Bool, true, false, map, ℕ, List, [], ◌∷◌, ◌++◌, IsTrue, Option, None, Some, IfSome, ◌==◌, length, decimal, ap, arith, length-append, inl, inr}
use Rattle.std.proofs.lemmas.Bool.{cases_Bool}
use Rattle.std.specs.Prelude.{codes}
use Rattle.json.specs.Print.{quoted}
use Rattle.std.specs.List.{zip}
use Rattle.serde_json.specs.Data.{Data, number, unsigned}
use Rattle.serde_json.specs.Written.{comma_if, items_text}
use Rattle.pm_model.specs.Name.{is_name}
use Rattle.pm_model.specs.RightSet.{right_bits}
use Rattle.pm_model.specs.Object.{items_of, listed, whole_if, texted}
use Rattle.pm_model.specs.Text.{text, front, back, bad_front, list_front, survey_front, changes_front, pair_told, count_told, change_told, rights_text, no_front, done_front, fired_if, granted_front, response_front, refusal_word, process_shown, review_shown, session_shown, unknown_front, full_front, denied_front, refusal_front, table_word, said}
use Rattle.pm_model.specs.Words.{key_text, word_text}
use Rattle.pm_model.specs.declared.words.Key.{Key}
use Rattle.pm_model.specs.declared.words.Key.TheVariants as key
use Rattle.pm_model.specs.declared.words.Word.{Word}
use Rattle.pm_model.specs.declared.words.Word.TheVariants as word
use Rattle.pm_model.specs.declared.lines.Head.{Head}
use Rattle.pm_model.specs.declared.lines.BadLine.{BadLine}
use Rattle.pm_model.specs.declared.lines.BadLine.TheVariants.{TooLong, NotJson, NotRequest, UnknownCommand, BadField}
use Rattle.pm_model.specs.declared.replies.Refusal.{Refusal}
use Rattle.pm_model.specs.declared.replies.Refusal.TheVariants as refusal
use Rattle.pm_model.specs.declared.replies.Reply.{Reply}
use Rattle.pm_model.specs.declared.replies.Reply.TheVariants.{Done, Granted, Caps, Entries, Survey, Kept, Changes, Bad, Ahead, Refused, ResponseRefused, KeepFault}
use Rattle.pm_model.specs.declared.reviews.Changed.{Changed}
use Rattle.pm_model.specs.declared.reviews.Pair.{Pair}
use Rattle.pm_model.specs.declared.replies.Reason.{Reason}
use Rattle.pm_model.specs.declared.replies.Reason.TheVariants.{Class, Prohibition}
use Rattle.pm_model.specs.declared.replies.Shown.{Shown}
use Rattle.pm_model.specs.declared.replies.Shown.TheVariants as shown
use Rattle.pm_model.specs.declared.replies.Table.{Table}
use Rattle.pm_print.specs.Printable.{names_in, names_in_refusal, names_in_reason, names_of_changes, names_of_pairs, numbers_in, numbers_in_shown, rights_in, rights_of_changes, rights_of_pairs, ShowsNames, ShowsNumbers, ShowsRights, IsPrintable}
use Rattle.pm_print.specs.Growth.{change_most, decimal_most, front_most, front_most_of, key_most, number_most, pair_most, reply_most, rights_most, text_most}
use Rattle.pm_print.specs.Members.{item_text, items_front, keyed, leading, leading_all, trailing, trailing_all}
use Rattle.pm_print.proofs.Hex.{hex_length, hex_quoted}
use Rattle.pm_print.proofs.ItemTexts.{listed_text}
use Rattle.pm_print.proofs.Members.{line_by}
use Rattle.pm_print.proofs.Texts.{key_name, key_size, word_name, quoted_size, decimal_size}

name_size : (k : Key) (s : List ℕ) → IsTrue (is_name s) → length (trailing (key_text k) (texted s)) ≤ text_most
unfolding trailing
name_size k s h =
    let lead = key_size k in
    let q = quoted_size s h in
    let a = length-append (keyed (key_text k)) (quoted s ++ 44 ∷ []) in
    let b = length-append (quoted s) (44 ∷ []) in
    omega (arith, lead, q, a, b)

word_size : (k : Key) (w : Word) → length (trailing (key_text k) (said w)) ≤ text_most
word_size k w = name_size k (word_text w) (word_name w)

number_size : (k : Key) (n : Option ℕ) → IfSome n (λ n. n < 2 ^ 64) → length (trailing (key_text k) (whole_if n)) ≤ number_most
unfolding trailing
number_size k None h = omega arith
number_size k (Some n) h =
    let lead = key_size k in
    let d = decimal_size n h in
    let a = length-append (keyed (key_text k)) (decimal n ++ 44 ∷ []) in
    let b = length-append (decimal n) (44 ∷ []) in
    omega (arith, lead, d, a, b)

-- a member that isn't there
none_size : (k : Key) → length (trailing (key_text k) None) ≤ 0
unfolding trailing
none_size k = omega arith

-- ---- the members before `v`

-- a member more
more : (a b : List ℕ) (m n : ℕ) → length a ≤ m → length b ≤ n → length (a ++ b) ≤ m + n
more a b m n p q = let e = length-append a b in omega (arith, e, p, q)

-- the members end
ended : length {A = ℕ} [] ≤ 0
ended = omega arith

abbrev HasNumber : Head → Type 0
HasNumber h = IfSome h.id (λ n. n < 2 ^ 64)

no_size : (h : Head) (w : Word) → HasNumber h → length (trailing_all (no_front h w)) ≤ number_most + text_most
no_size h w i = more _ _ _ _ (number_size key.Id h.id i) (more _ [] _ 0 (word_size key.No w) ended)

fired_size : (fired : ℕ) → fired < 2 ^ 64 → length (trailing (key_text key.Fired) (whole_if (fired_if fired))) ≤ number_most
fired_size fired n = elim (cases_Bool (fired == 0)) [
  | inl none ↦ rw none (number_size key.Fired None tt)
  | inr some ↦ rw some (number_size key.Fired (Some fired) n)
]

granted_size : (h : Head) (fired : ℕ) → HasNumber h → fired < 2 ^ 64 → length (trailing_all (granted_front h fired)) ≤ front_most
granted_size h fired i n =
    let e = more _ _ _ _ (fired_size fired n) (more _ _ _ _ (number_size key.Id h.id i) (more _ [] _ 0 (word_size key.Ok word.Granted) ended)) in
    omega (arith, e)

process_size : (made : Shown) → ShowsNumbers (numbers_in_shown made) → length (trailing (key_text key.Process) (whole_if (process_shown made))) ≤ number_most
process_size shown.Nothing n = number_size key.Process None tt
process_size (shown.Session m) n = number_size key.Process None tt
process_size (shown.Process m) n = number_size key.Process (Some m) n.0
process_size (shown.Review m) n = number_size key.Process None tt

review_size : (made : Shown) → ShowsNumbers (numbers_in_shown made) → length (trailing (key_text key.Review) (whole_if (review_shown made))) ≤ number_most
review_size shown.Nothing n = number_size key.Review None tt
review_size (shown.Session m) n = number_size key.Review None tt
review_size (shown.Process m) n = number_size key.Review None tt
review_size (shown.Review m) n = number_size key.Review (Some m) n.0

session_size : (made : Shown) → ShowsNumbers (numbers_in_shown made) → length (trailing (key_text key.Session) (whole_if (session_shown made))) ≤ number_most
session_size shown.Nothing n = number_size key.Session None tt
session_size (shown.Session m) n = number_size key.Session (Some m) n.0
session_size (shown.Process m) n = number_size key.Session None tt
session_size (shown.Review m) n = number_size key.Session None tt

done_size : (h : Head) (fired : ℕ) (made : Shown) → HasNumber h → fired < 2 ^ 64 → ShowsNumbers (numbers_in_shown made)
    → length (trailing_all (done_front h fired made)) ≤ front_most
done_size h fired made i f n =
    let e = more _ _ _ _ (fired_size fired f) (more _ _ _ _ (number_size key.Id h.id i) (more _ _ _ _ (word_size key.Ok word.Done)
    (more _ _ _ _ (process_size made n) (more _ _ _ _ (review_size made n) (more _ [] _ 0 (session_size made n) ended))))) in
    omega (arith, e)

bad_size : (h : Head) (bad : BadLine) → HasNumber h → length (trailing_all (bad_front h bad)) ≤ front_most
bad_size h TooLong i = let e = no_size h word.TooLong i in omega (arith, e)
bad_size h NotJson i = let e = no_size h word.NotJson i in omega (arith, e)
bad_size h NotRequest i = let e = no_size h word.NotRequest i in omega (arith, e)
bad_size h UnknownCommand i = let e = no_size h word.UnknownCommand i in omega (arith, e)
bad_size h (BadField f) i = let e = more _ _ _ _ (name_size key.Field (key_text f) (key_name f)) (no_size h word.BadField i) in omega (arith, e)

unknown_size : (h : Head) (name : List ℕ) → HasNumber h → IsTrue (is_name name) → length (trailing_all (unknown_front h name)) ≤ front_most
unknown_size h name i n =
    let e = more _ _ _ _ (number_size key.Id h.id i) (more _ _ _ _ (name_size key.Name name n) (more _ [] _ 0 (word_size key.No word.UnknownName) ended)) in
    omega (arith, e)

full_size : (h : Head) (table : Table) → HasNumber h → length (trailing_all (full_front h table)) ≤ front_most
full_size h table i =
    let e = more _ _ _ _ (number_size key.Id h.id i) (more _ _ _ _ (word_size key.No word.Full) (more _ [] _ 0 (word_size key.Table (table_word table)) ended)) in
    omega (arith, e)

denied_size : (h : Head) (names : ℕ → List ℕ) (right : List ℕ) (target : ℕ) (reason : Reason) → HasNumber h
    → ShowsNames (right ∷ names target ∷ names_in_reason names reason) → length (trailing_all (denied_front h names right target reason)) ≤ front_most
denied_size h names right target (Class pc) i n =
    let e = more _ _ _ _ (name_size key.Class (names pc) n.1.1.0) (more _ _ _ _ (number_size key.Id h.id i) (more _ _ _ _ (word_size key.No word.Denied)
    (more _ _ _ _ (none_size key.Prohibition) (more _ _ _ _ (name_size key.Right right n.0) (more _ [] _ 0 (name_size key.Target (names target) n.1.0) ended))))) in
    omega (arith, e)
denied_size h names right target (Prohibition name) i n =
    let e = more _ _ _ _ (none_size key.Class) (more _ _ _ _ (number_size key.Id h.id i) (more _ _ _ _ (word_size key.No word.Denied)
    (more _ _ _ _ (name_size key.Prohibition name n.1.1.0) (more _ _ _ _ (name_size key.Right right n.0) (more _ [] _ 0 (name_size key.Target (names target) n.1.0) ended))))) in
    omega (arith, e)

refusal_size : (h : Head) (names : ℕ → List ℕ) (why : Refusal) → HasNumber h → ShowsNames (names_in_refusal names why) → length (trailing_all (refusal_front h names why)) ≤ front_most
refusal_size h names refusal.UnknownProcess i n = let e = no_size h word.UnknownProcess i in omega (arith, e)
refusal_size h names refusal.UnknownSession i n = let e = no_size h word.UnknownSession i in omega (arith, e)
refusal_size h names refusal.UnknownReview i n = let e = no_size h word.UnknownReview i in omega (arith, e)
refusal_size h names refusal.BadKinds i n = let e = no_size h word.BadKinds i in omega (arith, e)
refusal_size h names refusal.NameTaken i n = let e = no_size h word.NameTaken i in omega (arith, e)
refusal_size h names refusal.Already i n = let e = no_size h word.Already i in omega (arith, e)
refusal_size h names refusal.Absent i n = let e = no_size h word.Absent i in omega (arith, e)
refusal_size h names refusal.Cycle i n = let e = no_size h word.Cycle i in omega (arith, e)
refusal_size h names refusal.Occupied i n = let e = no_size h word.Occupied i in omega (arith, e)
refusal_size h names refusal.InUse i n = let e = no_size h word.InUse i in omega (arith, e)
refusal_size h names refusal.LastContainer i n = let e = no_size h word.LastContainer i in omega (arith, e)
refusal_size h names refusal.Builtin i n = let e = no_size h word.Builtin i in omega (arith, e)
refusal_size h names refusal.EmptyRange i n = let e = no_size h word.EmptyRange i in omega (arith, e)
refusal_size h names (refusal.UnknownName name) i n = unknown_size h name i n.0
refusal_size h names (refusal.Denied right target reason) i n = denied_size h names right target reason i n
refusal_size h names (refusal.Full table) i n = full_size h table i

response_size : (h : Head) (obligation : List ℕ) (action : ℕ) (why : Refusal) → HasNumber h → action < 2 ^ 64 → IsTrue (is_name obligation)
    → length (trailing_all (response_front h obligation action why)) ≤ front_most
response_size h obligation action why i m n =
    let e = more _ _ _ _ (number_size key.Action (Some action) m) (more _ _ _ _ (number_size key.Id h.id i) (more _ _ _ _ (word_size key.No word.ResponseRefused)
    (more _ [] _ 0 (name_size key.Obligation obligation n) ended))) in
    omega (arith, e)

-- ---- lists

comma_size : (later : Bool) → length (comma_if later) ≤ 1
comma_size true = omega arith
comma_size false = omega arith

-- a name and another value, which is no longer than a number or a set of rights
item_size : (later : Bool) (name value : List ℕ) → IsTrue (is_name name) → length value ≤ max decimal_most rights_most →
    length (comma_if later ++ 91 ∷ (quoted name ++ 44 ∷ (value ++ 93 ∷ []))) ≤ pair_most
item_size later name value n short =
    let c = comma_size later in
    let q = quoted_size name n in
    let a = length-append (comma_if later) (91 ∷ (quoted name ++ 44 ∷ (value ++ 93 ∷ []))) in
    let b = length-append (quoted name) (44 ∷ (value ++ 93 ∷ [])) in
    let d = length-append value (93 ∷ []) in
    omega (arith, c, q, a, b, d, short)

rights_size : (rights : ℕ) → rights < 2 ^ right_bits → length (quoted (rights_text rights)) ≤ rights_most
rights_size rights fits =
    let e = ap length (hex_quoted rights) in
    let d = hex_length rights fits in
    let a = length-append (rights_text rights) (34 ∷ []) in
    omega (arith, e, d, a)

pairs_size : (names : ℕ → List ℕ) (later : Bool) (list : List Pair) → ShowsRights (rights_of_pairs list) → ShowsNames (names_of_pairs names list) →
    length (items_front later (map (pair_told names) list)) ≤ pair_most * length list
pairs_size names later [] m n = omega arith
pairs_size names later (p ∷ ps) m n =
    let here = item_size later (names p.element) (quoted (rights_text p.rights)) n.0 (let short = rights_size p.rights m.0 in omega (arith, short)) in
    let rest = pairs_size names true ps m.1 n.1 in
    let a = length-append (item_text later (pair_told names p)) (items_front true (map (pair_told names) ps)) in
    omega (arith, here, rest, a)

-- a name and two sets of rights
change_size : (later : Bool) (c : Changed) → IsTrue (is_name c.name) → c.old < 2 ^ right_bits → c.new < 2 ^ right_bits → length (item_text later (change_told c)) ≤ change_most
change_size later c named old new =
    let was = quoted (rights_text c.old) in
    let is = quoted (rights_text c.new) in
    let comma = comma_size later in
    let q = quoted_size c.name named in
    let short = rights_size c.old old in
    let brief = rights_size c.new new in
    let a = length-append (comma_if later) (91 ∷ (quoted c.name ++ 44 ∷ (was ++ 44 ∷ (is ++ 93 ∷ [])))) in
    let b = length-append (quoted c.name) (44 ∷ (was ++ 44 ∷ (is ++ 93 ∷ []))) in
    let d = length-append was (44 ∷ (is ++ 93 ∷ [])) in
    let e = length-append is (93 ∷ []) in
    omega (arith, comma, q, short, brief, a, b, d, e)

changes_size : (later : Bool) (list : List Changed) → ShowsRights (rights_of_changes list) → ShowsNames (names_of_changes list) →
    length (items_front later (map change_told list)) ≤ change_most * length list
changes_size later [] m n = omega arith
changes_size later (c ∷ cs) m n =
    let here = change_size later c n.0 m.0 m.1.0 in
    let rest = changes_size true cs m.1.1 n.1 in
    let a = length-append (item_text later (change_told c)) (items_front true (map change_told cs)) in
    omega (arith, here, rest, a)

counts_size : (names : ℕ → List ℕ) (later : Bool) (users counts : List ℕ) → ShowsNumbers counts → ShowsNames (map names users) →
    length (items_front later (map (count_told names) (zip users counts))) ≤ pair_most * length (zip users counts)
counts_size names later [] counts m n = omega arith
counts_size names later (u ∷ us) [] m n = omega arith
counts_size names later (u ∷ us) (c ∷ cs) m n =
    let here = item_size later (names u) (decimal c) n.0 (let d = decimal_size c m.0 in omega (arith, d)) in
    let rest = counts_size names true us cs m.1 n.1 in
    let a = length-append (item_text later (count_told names (u, c))) (items_front true (map (count_told names) (zip us cs))) in
    omega (arith, here, rest, a)

listed_size : (k : Key) (ds : List Data) (n : ℕ) → length (items_front false ds) ≤ n → length (trailing (key_text k) (Some (listed ds))) ≤ key_most + 3 + n
unfolding trailing
listed_size k ds n short =
    let lead = key_size k in
    let e = ap length (listed_text ds) in
    let a = length-append (keyed (key_text k)) (91 ∷ (items_text false (items_of ds) ++ 44 ∷ [])) in
    let b = length-append (items_text false (items_of ds)) (44 ∷ []) in
    let c = length-append (items_front false ds) (93 ∷ []) in
    omega (arith, lead, e, a, b, c, short)

list_size : (h : Head) (names : ℕ → List ℕ) (w : Word) (list : List Pair) → HasNumber h → ShowsRights (rights_of_pairs list) →
    ShowsNames (names_of_pairs names list) → length (trailing_all (list_front h names w list)) ≤ front_most + pair_most * length list
list_size h names w list i m n =
    let e = more _ _ _ _ (number_size key.Id h.id i)
    (more _ _ _ _ (listed_size key.List (map (pair_told names) list) _ (pairs_size names false list m n)) (more _ [] _ 0 (word_size key.Ok w) ended)) in
    omega (arith, e)

survey_size : (h : Head) (names : ℕ → List ℕ) (users counts : List ℕ) → HasNumber h → ShowsNumbers counts → ShowsNames (map names users) →
    length (trailing_all (survey_front h names users counts)) ≤ front_most + pair_most * length (zip users counts)
survey_size h names users counts i m n =
    let e = more _ _ _ _ (listed_size key.Counts (map (count_told names) (zip users counts)) _ (counts_size names false users counts m n))
    (more _ _ _ _ (number_size key.Id h.id i) (more _ [] _ 0 (word_size key.Ok word.Survey) ended)) in
    omega (arith, e)

changed_size : (h : Head) (at : ℕ) (list : List Changed) → HasNumber h → at < 2 ^ 64 → ShowsRights (rights_of_changes list) →
    ShowsNames (names_of_changes list) → length (trailing_all (changes_front h at list)) ≤ front_most + change_most * length list
changed_size h at list i v m n =
    let e = more _ _ _ _ (number_size key.At (Some at) v) (more _ _ _ _ (number_size key.Id h.id i)
    (more _ _ _ _ (listed_size key.List (map change_told list) _ (changes_size false list m n)) (more _ [] _ 0 (word_size key.Ok word.Changes) ended))) in
    omega (arith, e)

front_size : (h : Head) (names : ℕ → List ℕ) (reply : Reply) → HasNumber h → ShowsNumbers (numbers_in reply) → ShowsRights (rights_in reply) → ShowsNames (names_in names reply)
    → length (trailing_all (front h names reply)) ≤ front_most_of reply
front_size h names (Done fired made) i m r n = done_size h fired made i m.0 m.1
front_size h names (Granted fired) i m r n = granted_size h fired i m.0
front_size h names (Caps list) i m r n = list_size h names word.Caps list i r n
front_size h names (Entries list) i m r n = list_size h names word.Entries list i r n
front_size h names (Survey users counts) i m r n = survey_size h names users counts i m n
front_size h names (Kept list) i m r n = list_size h names word.Kept list i r n
front_size h names (Changes at list) i m r n = changed_size h at list i m.0 r n
front_size h names (Bad bad) i m r n = bad_size h bad i
front_size h names Ahead i m r n = let e = no_size h word.Ahead i in omega (arith, e)
front_size h names (Refused why) i m r n = refusal_size h names why i n
front_size h names (ResponseRefused obligation action why) i m r n = response_size h obligation action why i m.0 n.0
front_size h names KeepFault i m r n = let e = no_size h word.KeepFault i in omega (arith, e)

-- ---- the member behind `v`

behind_size : (k : Key) (w : Word) → length (leading (key_text k) (said w)) ≤ text_most
unfolding leading
behind_size k w =
    let lead = key_size k in
    let q = quoted_size (word_text w) (word_name w) in
    let a = length-append (keyed (key_text k)) (quoted (word_text w)) in
    omega (arith, lead, q, a)

back_size : (reply : Reply) → length (leading_all (back reply)) ≤ text_most
back_size (Done fired made) = omega arith
back_size (Granted fired) = omega arith
back_size (Caps list) = omega arith
back_size (Entries list) = omega arith
back_size (Survey users counts) = omega arith
back_size (Kept list) = omega arith
back_size (Changes at list) = omega arith
back_size (Bad bad) = omega arith
back_size Ahead = omega arith
back_size (Refused why) = omega arith
back_size (ResponseRefused obligation action why) = more _ [] _ 0 (behind_size key.Why (refusal_word why)) ended
back_size KeepFault = omega arith

-- ---- the line

pub reply_is_short : (id : Option ℕ) (v : ℕ) (names : ℕ → List ℕ) (reply : Reply) → IsPrintable id v names reply → length (text id v names reply) ≤ reply_most reply
reply_is_short id v names reply p =
    let members = trailing_all (front (record { id = id }) names reply) in
    let f = front_size (record { id = id }) names reply p.id_fits p.numbers_fit p.rights_fit p.named in
    let g = back_size reply in
    let e = ap length (line_by (key_text key.V) (number (unsigned v)) (back reply) (front (record { id = id }) names reply)) in
    let k = key_size key.V in
    let d = decimal_size v p.version_fits in
    let last = leading_all (back reply) in
    let a = length-append members (keyed (key_text key.V) ++ (decimal v ++ (last ++ codes "}\n"))) in
    let b = length-append (keyed (key_text key.V)) (decimal v ++ (last ++ codes "}\n")) in
    let c = length-append (decimal v) (last ++ codes "}\n") in
    let l = length-append last (codes "}\n") in
    omega (arith, f, g, e, k, d, a, b, c, l)
