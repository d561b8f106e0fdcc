-- What a form finds is told in no more bytes than stand there.
use Rattle.std.proofs.Common.{◌≡◌, ◌≤◌, ◌<◌, ◌+◌, ℕ, List, [], ◌∷◌, ◌++◌, ◌&&◌, ◌==◌, inl, inr, Bool, true, false, not, max, length, filter, map, nat_lt, bytes_eq, codes, decimal, Option, None, Some, option_and_then, option_map, if◌then◌else◌, refl, sym, ap, ◌∙◌, arith}
use Rattle.std.proofs.lemmas.Bool.{and_parts, cases_Bool}
use Rattle.std.proofs.lemmas.List.{length-append}
use Rattle.std.proofs.lemmas.Slice.Eq.{bytes_eq-Decides}
use Rattle.std.specs.Cmp.Lexicographic.{slice_cmp}
use Rattle.std.specs.List.{list_all}
use Rattle.std.specs.Ordering.{is_gt, nat_cmp, match_ordering}
use Rattle.std.specs.Prelude.{IsTrue}
use Rattle.std.specs.declared.cmp.Ordering.{Ordering}
use Rattle.std.specs.declared.cmp.Ordering.TheVariants.{Less, Equal, Greater}
use Rattle.json.specs.Print.{quoted}
use Rattle.serde_json.specs.Data.{unsigned, negative, float, Data, null, boolean, number, string, array, object, Items, no_items, item, Members, no_members, member}
use Rattle.serde_json.specs.Find.{as_array, as_str, get, get_member}
use Rattle.serde_json.specs.Written.{compact_text, items_text, members_text}
use Rattle.pm_model.specs.Forms.{distinct, if_name, if_short, if_some_few, list_form, list_of, listed_form, looking, mode_form, mode_of, name_form, one_subject, rights_form, short_form, subject_form, whole_form}
use Rattle.pm_model.specs.Name.{is_name, is_name_byte}
use Rattle.pm_model.specs.Object.{items_of, listed, present}
use Rattle.pm_model.specs.ResponseForms as does
use Rattle.pm_model.specs.ResponseForms.{act_as_set, action_form, as_set, do_form, given_form, given_of, guard_form, guard_of, guards_if, if_allowed, if_few_guards, if_few_terms, name_if, number_or, process_form, term_form, term_of, terms_form, when_form, within_of}
use Rattle.pm_model.specs.Words.{key_text, word_text}
use Rattle.pm_model.specs.declared.words.Key.{Key}
use Rattle.pm_model.specs.declared.words.Key.TheVariants as key
use Rattle.pm_model.specs.declared.words.Word.{Word}
use Rattle.pm_model.specs.declared.words.Word.TheVariants as word
use Rattle.pm_model.specs.declared.actions.Guard.{Guard}
use Rattle.pm_model.specs.declared.actions.ProcessTerm.{ProcessTerm}
use Rattle.pm_model.specs.declared.actions.ProcessTerm.TheVariants.{Number, EventProcess}
use Rattle.pm_model.specs.declared.actions.Term.{Term}
use Rattle.pm_model.specs.declared.actions.Term.TheVariants.{Named, EventUser, EventTarget, Fresh}
use Rattle.pm_model.specs.declared.events.When.{When}
use Rattle.pm_model.specs.declared.prohibitions.Mode.{Mode}
use Rattle.pm_model.specs.declared.prohibitions.Mode.TheVariants as mode
use Rattle.pm_model.specs.declared.prohibitions.Subject.{Subject}
use Rattle.pm_model.specs.declared.prohibitions.Subject.TheVariants.{User, Ua, Process}
use Rattle.pm_print.specs.Actions as told
use Rattle.pm_print.specs.Actions.{act_word, action_fields, action_told, actions_told, event_process_text, guard_told, guards_told, mode_word, name_told, names_told, only, process_told, subject_told, term_subject_told, term_text, term_told, terms_told, when_fields, when_told, within_text}
use Rattle.pm_print.proofs.Fields.{keys_above}
use Rattle.pm_print.proofs.Members.{plain-name, quoted-plain}
use Rattle.pm_print.proofs.Texts.{event_process, event_target, event_user, fresh, key_name, word_name}
use Rattle.pm_lines.proofs.Finds.{Finds, found, nothing, next, mapped, if_finds}
use Rattle.pm_lines.proofs.Lengths.{items_size, members_size, same_key, size}

-- ---- how long texts are

abbrev pub text_size : Data → ℕ
text_size d = length (compact_text d)

pub name_size : (s : List ℕ) → IsTrue (is_name s) → text_size (string s) ≤ length s + 2
name_size s h = let e = ap length (quoted-plain s (plain-name s h)) in let a = length-append s (34 ∷ []) in omega (arith, e, a)

-- the word is what stands there
pub word_size : (s : List ℕ) (w : Word) → bytes_eq s (word_text w) ≡ true → text_size (string (word_text w)) ≤ length s + 2
word_size s w h =
    let same = ap length ((bytes_eq-Decides s (word_text w)).0 h) in
    let short = name_size (word_text w) (word_name w) in
    omega (arith, same, short)

-- each with what stands behind it
abbrev pub told_size : {A : Type 0} → (A → Data) → List A → ℕ
told_size tell [] = 0
told_size tell (x ∷ xs) = text_size (tell x) + 1 + told_size tell xs

pub later_items : {A : Type 0} (tell : A → Data) (xs : List A) → length (items_text true (items_of (map tell xs))) ≡ 1 + told_size tell xs
later_items tell [] = omega arith
later_items tell (x ∷ xs) =
    let rest = later_items tell xs in
    let a = length-append (compact_text (tell x)) (items_text true (items_of (map tell xs))) in
    omega (arith, rest, a)

pub listed_size : {A : Type 0} (tell : A → Data) (xs : List A) → text_size (listed (map tell xs)) ≤ 1 + max 1 (told_size tell xs)
listed_size tell [] = omega arith
listed_size tell (x ∷ xs) =
    let rest = later_items tell xs in
    let a = length-append (compact_text (tell x)) (items_text true (items_of (map tell xs))) in
    omega (arith, rest, a)

abbrev pub fields_size : List (List ℕ × Option Data) → ℕ
fields_size [] = 0
fields_size ((k, None) ∷ fs) = fields_size fs
fields_size ((k, Some d) ∷ fs) = length k + 4 + text_size d + fields_size fs

-- what stands there, and one, or nothing
abbrev pub cost : Option Data → ℕ
cost None = 0
cost (Some d) = 1 + text_size d

abbrev pub least : Option Data → ℕ
least None = 0
least (Some d) = 1 + size d

-- ---- an object with the values of these members takes as much as their text

-- the keys have the bytes of names, and are in order
abbrev pub in_row : List (List ℕ × Option Data) → Bool
in_row [] = true
in_row (f ∷ fs) = (list_all is_name_byte f.0 && keys_above f.0 fs) && in_row fs

pub plain_key : (k : List ℕ) → list_all is_name_byte k ≡ true → length (quoted k) ≤ length k + 2
plain_key k h = let e = ap length (quoted-plain k h) in let a = length-append k (34 ∷ []) in omega (arith, e, a)

module _ (look : List ℕ → Option Data) where
  abbrev pub Fits : List (List ℕ × Option Data) → Type 0
  Fits [] = Unit {0}
  Fits (f ∷ fs) = (cost f.1 ≤ least (look f.0)) × Fits fs

pub later_fields : (fs : List (List ℕ × Option Data)) → in_row fs ≡ true → length (members_text true (present fs)) ≤ 1 + fields_size fs
later_fields [] h = omega arith
later_fields ((k, None) ∷ fs) h = later_fields fs (and_parts (list_all is_name_byte k && keys_above k fs) (in_row fs) h).1
later_fields ((k, Some d) ∷ fs) h =
    let p = and_parts (list_all is_name_byte k && keys_above k fs) (in_row fs) h in
    let rest = later_fields fs p.1 in
    let short = plain_key k (and_parts (list_all is_name_byte k) (keys_above k fs) p.0).0 in
    let a = length-append (quoted k) (58 ∷ (compact_text d ++ members_text true (present fs))) in
    let b = length-append (compact_text d) (members_text true (present fs)) in
    omega (arith, rest, short, a, b)

pub first_fields : (fs : List (List ℕ × Option Data)) → in_row fs ≡ true → length (members_text false (present fs)) ≤ max 1 (fields_size fs)
first_fields [] h = omega arith
first_fields ((k, None) ∷ fs) h = first_fields fs (and_parts (list_all is_name_byte k && keys_above k fs) (in_row fs) h).1
first_fields ((k, Some d) ∷ fs) h =
    let p = and_parts (list_all is_name_byte k && keys_above k fs) (in_row fs) h in
    let rest = later_fields fs p.1 in
    let short = plain_key k (and_parts (list_all is_name_byte k) (keys_above k fs) p.0).0 in
    let a = length-append (quoted k) (58 ∷ (compact_text d ++ members_text true (present fs))) in
    let b = length-append (compact_text d) (members_text true (present fs)) in
    omega (arith, rest, short, a, b)

-- the members without the first at the key
abbrev pub without : List ℕ → Members → Members
without k no_members = no_members
without k (member l e ms) = match_ordering (slice_cmp nat_cmp k l) (member l e (without k ms)) ms (member l e (without k ms))

pub taken_out : (k : List ℕ) (d : Data) (ms : Members) → get_member k ms ≡ Some d → length k + 4 + size d + members_size (without k ms) ≤ members_size ms
taken_out k d no_members h = absurd cc
taken_out k d (member l e ms) h = by_order (slice_cmp nat_cmp k l) refl (taken_out k d ms) h
  where
    by_order : (o : Ordering) → slice_cmp nat_cmp k l ≡ o → (get_member k ms ≡ Some d → length k + 4 + size d + members_size (without k ms) ≤ members_size ms)
        → match_ordering o (get_member k ms) (Some e) (get_member k ms) ≡ Some d
        → length k + 4 + size d + members_size (match_ordering o (member l e (without k ms)) ms (member l e (without k ms))) ≤ length l + 4 + size e + members_size ms
    by_order Less is behind h = let rest = behind h in omega (arith, rest)
    by_order Equal is behind h = let key = ap length (same_key k l is) in let value : e ≡ d = cc in let same = ap size value in omega (arith, key, same)
    by_order Greater is behind h = let rest = behind h in omega (arith, rest)

pub greater_passes : (o : Ordering) (r s : Option Data) → is_gt o ≡ true → match_ordering o r s r ≡ r
greater_passes Less r s g = refl
greater_passes Equal r s g = absurd cc
greater_passes Greater r s g = refl

-- a greater key is where it was
pub still_there : (k l : List ℕ) (ms : Members) → is_gt (slice_cmp nat_cmp l k) ≡ true → get_member l (without k ms) ≡ get_member l ms
still_there k l no_members h = refl
still_there k l (member m e ms) h = by_order (slice_cmp nat_cmp k m) refl (still_there k l ms h)
  where
    by_order : (o : Ordering) → slice_cmp nat_cmp k m ≡ o → get_member l (without k ms) ≡ get_member l ms
        → get_member l (match_ordering o (member m e (without k ms)) ms (member m e (without k ms))) ≡ match_ordering (slice_cmp nat_cmp l m) (get_member l ms) (Some e) (get_member l ms)
    by_order Less is same = ap (λ (r : Option Data). match_ordering (slice_cmp nat_cmp l m) r (Some e) r) same
    by_order Equal is same =
        sym (greater_passes (slice_cmp nat_cmp l m) (get_member l ms) (Some e) (ap (λ j. is_gt (slice_cmp nat_cmp l j)) (sym (same_key k m is)) ∙ h))
    by_order Greater is same = ap (λ (r : Option Data). match_ordering (slice_cmp nat_cmp l m) r (Some e) r) same

abbrev pub at : Members → List ℕ → Option Data
at ms k = get_member k ms

pub fits_without : (k : List ℕ) (ms : Members) (fs : List (List ℕ × Option Data)) → keys_above k fs ≡ true → Fits (at ms) fs → Fits (at (without k ms)) fs
fits_without k ms [] above h = tt
fits_without k ms ((l, o) ∷ fs) above h =
    let p = and_parts (is_gt (slice_cmp nat_cmp l k)) (keys_above k fs) above in
    let same = ap least (still_there k l ms p.0) in
    let fit = h.0 in
    (omega (arith, same, fit), fits_without k ms fs p.1 h.1)

pub there : (o : Option Data) (n : ℕ) → 1 + n ≤ least o → (d : Data) × (o ≡ Some d) × (n ≤ size d)
there None n h = let never : ⊥ = omega arith in absurd never
there (Some d) n h = (d, refl, omega arith)

pub members_fit : (ms : Members) (fs : List (List ℕ × Option Data)) → in_row fs ≡ true → Fits (at ms) fs → fields_size fs ≤ members_size ms
members_fit ms [] row h = omega arith
members_fit ms ((k, None) ∷ fs) row h = members_fit ms fs (and_parts (list_all is_name_byte k && keys_above k fs) (in_row fs) row).1 h.1
members_fit ms ((k, Some d) ∷ fs) row h =
    let p = and_parts (list_all is_name_byte k && keys_above k fs) (in_row fs) row in
    let above = (and_parts (list_all is_name_byte k) (keys_above k fs) p.0).1 in
    let value = there (get_member k ms) (text_size d) h.0 in
    let out = taken_out k value.0 ms value.1 in
    let le = value.2 in
    let rest = members_fit (without k ms) fs p.1 (fits_without k ms fs above h.1) in
    omega (arith, out, le, rest)

pub object_fits : (d : Data) (fs : List (List ℕ × Option Data)) → in_row fs ≡ true → 0 < fields_size fs → Fits (looking d) fs → text_size (object (present fs)) ≤ size d
object_fits null fs row some h = let none = members_fit no_members fs row h in omega (arith, none)
object_fits (boolean b) fs row some h = let none = members_fit no_members fs row h in omega (arith, none)
object_fits (number n) fs row some h = let none = members_fit no_members fs row h in omega (arith, none)
object_fits (string s) fs row some h = let none = members_fit no_members fs row h in omega (arith, none)
object_fits (array ds) fs row some h = let none = members_fit no_members fs row h in omega (arith, none)
object_fits (object ms) fs row some h = let all = members_fit ms fs row h in let text = first_fields fs row in omega (arith, all, text)

-- ---- what a form finds is told in no more bytes

pub weaker : {A : Type 0} (P Q : A → Type 0) (o : Option A) → Finds P o → ((a : A) → P a → Q a) → Finds Q o
weaker P Q None finds less = nothing Q
weaker P Q (Some a) finds less = found Q a (less a finds.each)

-- told by a value of at most so many bytes
abbrev pub Told : {A : Type 0} → (A → Data) → ℕ → A → Type 0
Told tell n a = text_size (tell a) ≤ n

-- the same where the value stands there, or not
abbrev pub ToldAt : {A : Type 0} → (A → Data) → Option Data → A → Type 0
ToldAt tell o a = 1 + text_size (tell a) ≤ least o

abbrev pub Short : {A : Type 0} → (A → Data) → (Data → Option A) → Type 0
Short {A} tell form = (d : Data) → Finds (Told tell (size d)) (form d)

pub at_key : {A : Type 0} (tell : A → Data) (form : Data → Option A) → Short tell form → (o : Option Data) → Finds (ToldAt tell o) (option_and_then form o)
at_key tell form short None = nothing (ToldAt tell None)
at_key tell form short (Some d) = weaker (Told tell (size d)) (ToldAt tell (Some d)) (form d) (short d) (λ a h. omega arith)

abbrev pub TextIn : ℕ → List ℕ → Type 0
TextIn n s = length s + 2 ≤ n

pub text_in : (d : Data) → Finds (TextIn (size d)) (as_str d)
text_in null = nothing (TextIn 0)
text_in (boolean b) = nothing (TextIn 0)
text_in (number n) = nothing (TextIn (size (number n)))
text_in (string s) = found (TextIn (length s + 2)) s (omega arith)
text_in (array ds) = nothing (TextIn (size (array ds)))
text_in (object ms) = nothing (TextIn (size (object ms)))

abbrev pub ItemsIn : ℕ → Items → Type 0
ItemsIn n ds = 1 + max 1 (items_size ds) ≤ n

pub items_in : (d : Data) → Finds (ItemsIn (size d)) (as_array d)
items_in null = nothing (ItemsIn 0)
items_in (boolean b) = nothing (ItemsIn 0)
items_in (number n) = nothing (ItemsIn (size (number n)))
items_in (string s) = nothing (ItemsIn (size (string s)))
items_in (array ds) = found (ItemsIn (1 + max 1 (items_size ds))) ds (omega arith)
items_in (object ms) = nothing (ItemsIn (size (object ms)))

abbrev pub digits_told : ℕ → Data
digits_told n = number (unsigned n)

pub whole_short : Short digits_told whole_form
whole_short null = nothing (Told digits_told 0)
whole_short (boolean b) = nothing (Told digits_told 0)
whole_short (number (unsigned n)) = found (Told digits_told (length (decimal n))) n (omega arith)
whole_short (number (negative z)) = nothing (Told digits_told 0)
whole_short (number (float x)) = nothing (Told digits_told 0)
whole_short (string s) = nothing (Told digits_told (size (string s)))
whole_short (array ds) = nothing (Told digits_told (size (array ds)))
whole_short (object ms) = nothing (Told digits_told (size (object ms)))

pub short_short : Short digits_told short_form
short_short d =
    let P = Told digits_told (size d) in
    next P P if_short (whole_form d) (whole_short d) (λ n h. if_finds P (nat_lt n _) (Some n) None (λ b. found P n h) (nothing P))

-- what a text stands for
pub of_text : {A : Type 0} (tell : A → Data) (form : List ℕ → Option A) → ((s : List ℕ) → Finds (Told tell (length s + 2)) (form s)) → Short tell (λ d. option_and_then form (as_str d))
of_text tell form short d =
    next (TextIn (size d)) (Told tell (size d)) form (as_str d) (text_in d) (λ s h. weaker (Told tell (length s + 2)) (Told tell (size d)) (form s) (short s) (λ a g. omega arith))

pub name_given : (s : List ℕ) → Finds (Told name_told (length s + 2)) (if_name s)
name_given s = let P = Told name_told (length s + 2) in if_finds P (is_name s) (Some s) None (λ h. found P s (name_size s h)) (nothing P)

pub name_short : Short name_told name_form
name_short = of_text name_told if_name name_given

abbrev pub mode_told : Mode → Data
mode_told m = string (word_text (mode_word m))

pub mode_given : (s : List ℕ) → Finds (Told mode_told (length s + 2)) (mode_of s)
mode_given s =
    let P = Told mode_told (length s + 2) in
    if_finds P _ (Some mode.All) _ (λ h. found P mode.All (word_size s word.All h))
    (if_finds P _ (Some mode.Any) None (λ h. found P mode.Any (word_size s word.Any h)) (nothing P))

pub mode_short : Short mode_told mode_form
mode_short = of_text mode_told mode_of mode_given

-- a text that is one of the program's own, which needs no escape
pub fixed_size : (s t : List ℕ) → bytes_eq s t ≡ true → length (quoted t) ≤ length t + 2 → text_size (string t) ≤ length s + 2
fixed_size s t h plain = let same = ap length ((bytes_eq-Decides s t).0 h) in omega (arith, same, plain)

pub term_given : (s : List ℕ) → Finds (Told term_told (length s + 2)) (term_of s)
unfolding term_text
term_given s =
    let P = Told term_told (length s + 2) in
    let user = ap length event_user in
    let target = ap length event_target in
    if_finds P _ (Some EventUser) _ (λ h. found P EventUser (fixed_size s (codes "$user") h (omega (arith, user))))
    (if_finds P _ (Some EventTarget) _ (λ h. found P EventTarget (fixed_size s (codes "$target") h (omega (arith, target))))
    (mapped (Told name_told (length s + 2)) P Named (if_name s) (name_given s) (λ name h. h)))

pub term_short : Short term_told term_form
term_short = of_text term_told term_of term_given

pub given_given : (s : List ℕ) → Finds (Told term_told (length s + 2)) (given_of s)
unfolding term_text
given_given s =
    let P = Told term_told (length s + 2) in
    let new = ap length fresh in
    if_finds P _ (Some Fresh) _ (λ h. found P Fresh (fixed_size s (codes "$fresh") h (omega (arith, new))))
    (mapped (Told name_told (length s + 2)) P Named (if_name s) (name_given s) (λ name h. h))

pub given_short : Short term_told given_form
given_short = of_text term_told given_of given_given

pub process_given : (s : List ℕ) → Finds (Told process_told (length s + 2)) (does.event_process_of s)
unfolding event_process_text
process_given s =
    let P = Told process_told (length s + 2) in
    let the = ap length event_process in
    if_finds P _ (Some EventProcess) None (λ h. found P EventProcess (fixed_size s (codes "$process") h (omega (arith, the)))) (nothing P)

pub or_number : (n : ℕ) (o : Option ℕ) (other : Option ProcessTerm) → Finds (Told digits_told n) o → Finds (Told process_told n) other → Finds (Told process_told n) (number_or o other)
or_number n (Some m) other short later = found (Told process_told n) (Number m) short.each
or_number n None other short later = later

pub process_short : Short process_told process_form
process_short d = or_number (size d) (short_form d) _ (short_short d) (of_text process_told does.event_process_of process_given d)

abbrev pub within_told : Bool → Data
within_told b = string (within_text b)

pub within_given : (s : List ℕ) → Finds (Told within_told (length s + 2)) (within_of s)
unfolding within_text
within_given s =
    let P = Told within_told (length s + 2) in
    let yes = name_size (codes "in") refl in
    let no = name_size (codes "not_in") refl in
    if_finds P _ (Some true) _ (λ h. found P true (fixed_size s (codes "in") h yes))
    (if_finds P _ (Some false) None (λ h. found P false (fixed_size s (codes "not_in") h no)) (nothing P))

-- ---- lists

abbrev pub ToldAll : {A : Type 0} → (A → Data) → ℕ → List A → Type 0
ToldAll tell n xs = told_size tell xs ≤ n

pub list_short : {A : Type 0} (tell : A → Data) (form : Data → Option A) → Short tell form → (ds : Items) → Finds (ToldAll tell (items_size ds)) (list_of form ds)
list_short tell form short no_items = found (ToldAll tell 0) [] (omega arith)
list_short {A} tell form short (item d ds) =
    let all = ToldAll tell (items_size ds) in
    let whole = ToldAll tell (items_size (item d ds)) in
    next (Told tell (size d)) whole (λ x. option_map (λ xs. x ∷ xs) (list_of form ds)) (form d) (short d)
    (λ x h. mapped all whole (λ xs. x ∷ xs) (list_of form ds) (list_short tell form short ds) (λ xs hs. omega arith))

abbrev pub list_told : {A : Type 0} → (A → Data) → List A → Data
list_told tell xs = listed (map tell xs)

abbrev pub ListIn : {A : Type 0} → (A → Data) → ℕ → List A → Type 0
ListIn tell n xs = 1 + max 1 (told_size tell xs) ≤ n

pub list_in : {A : Type 0} (tell : A → Data) (form : Data → Option A) → Short tell form → (d : Data) → Finds (ListIn tell (size d)) (option_and_then (list_of form) (as_array d))
list_in tell form short d =
    next (ItemsIn (size d)) (ListIn tell (size d)) (list_of form) (as_array d) (items_in d)
    (λ ds h. weaker (ToldAll tell (items_size ds)) (ListIn tell (size d)) (list_of form ds) (list_short tell form short ds) (λ xs g. omega arith))

pub array_short : {A : Type 0} (tell : A → Data) (form : Data → Option A) → Short tell form → Short (list_told tell) (λ d. option_and_then (list_of form) (as_array d))
array_short tell form short d =
    weaker (ListIn tell (size d)) (Told (list_told tell) (size d)) _ (list_in tell form short d) (λ xs h. let all = listed_size tell xs in omega (arith, all))

abbrev pub names_listed : List (List ℕ) → Data
names_listed names = list_told name_told names

pub names_short : Short names_listed list_form
names_short = array_short name_told name_form name_short

pub some_short : Short names_listed listed_form
some_short d =
    let P = Told names_listed (size d) in
    next P P if_some_few (list_form d) (names_short d) (λ ns h. if_finds P _ (Some ns) None (λ b. found P ns h) (nothing P))

pub filtered : (p : List ℕ → Bool) (ns : List (List ℕ)) → told_size name_told (filter p ns) ≤ told_size name_told ns
filtered p [] = omega arith
filtered p (n ∷ ns) = elim (cases_Bool (p n)) [
  | inl passes ↦ let rest = filtered p ns in rw passes (omega (arith, rest))
  | inr fails ↦ let rest = filtered p ns in rw fails (omega (arith, rest))
]

pub fewer : (ns : List (List ℕ)) → told_size name_told (distinct ns) ≤ told_size name_told ns
fewer [] = omega arith
fewer (n ∷ ns) = let kept = filtered (λ m. not (bytes_eq n m)) (distinct ns) in let rest = fewer ns in omega (arith, kept, rest)

-- the names, each once
abbrev pub once_told : List (List ℕ) → Data
once_told ns = names_listed (distinct ns)

pub once_short : Short once_told listed_form
once_short d =
    let P = Told once_told (size d) in
    next (ListIn name_told (size d)) P if_some_few (list_form d) (list_in name_told name_form name_short d)
    (λ ns h. let few = fewer ns in let all = listed_size name_told (distinct ns) in if_finds P _ (Some ns) None (λ b. found P ns (omega (arith, few, all))) (nothing P))

pub rights_short : Short names_listed rights_form
rights_short d = mapped (Told once_told (size d)) (Told names_listed (size d)) distinct (listed_form d) (once_short d) (λ ns h. h)

pub terms_short : Short (list_told term_told) terms_form
terms_short = array_short term_told term_form term_short

pub guard_items : (ds : Items) → Finds (λ g. text_size (guard_told g) ≤ 1 + max 1 (items_size ds)) (guard_of ds)
guard_items no_items = nothing _
guard_items (item w no_items) = nothing _
guard_items (item w (item i no_items)) = nothing _
guard_items (item w (item i (item o (item x rest)))) = nothing _
guard_items (item w (item i (item o no_items))) =
    let P = λ (g : Guard). text_size (guard_told g) ≤ 1 + max 1 (items_size (item w (item i (item o no_items)))) in
    next (Told within_told (size w)) P _ (option_and_then within_of (as_str w)) (of_text within_told within_of within_given w) (λ within h.
    next (Told term_told (size i)) P _ (term_form i) (term_short i) (λ inner g.
    mapped (Told term_told (size o)) P _ (term_form o) (term_short o) (λ outer k.
    let whole = listed_size (λ (d : Data). d) (within_told within ∷ term_told inner ∷ term_told outer ∷ []) in omega (arith, whole))))

pub guard_short : Short guard_told guard_form
guard_short d =
    next (ItemsIn (size d)) (Told guard_told (size d)) guard_of (as_array d) (items_in d)
    (λ ds h. weaker (λ g. text_size (guard_told g) ≤ 1 + max 1 (items_size ds)) (Told guard_told (size d)) (guard_of ds) (guard_items ds) (λ g k. omega arith))

abbrev pub GuardsAt : Option Data → List Guard → Type 0
GuardsAt o gs = cost (guards_told gs) ≤ least o

pub if_some : (gs : List Guard) → cost (guards_told gs) ≤ 1 + text_size (list_told guard_told gs)
if_some [] = omega arith
if_some (g ∷ gs) = test (length (g ∷ gs) == 0)
  where
    test : (b : Bool) → cost (if b then None else Some (listed (map guard_told (g ∷ gs)))) ≤ 1 + text_size (list_told guard_told (g ∷ gs))
    test true = omega arith
    test false = omega arith

pub guards_short : (o : Option Data) → Finds (GuardsAt o) (guards_if o)
guards_short None = found (GuardsAt None) [] (omega arith)
guards_short (Some d) =
    next (Told (list_told guard_told) (size d)) (GuardsAt (Some d)) if_few_guards _ (array_short guard_told guard_form guard_short d)
    (λ gs h. if_finds (GuardsAt (Some d)) _ (Some gs) None (λ b. let few = if_some gs in found (GuardsAt (Some d)) gs (omega (arith, few))) (nothing (GuardsAt (Some d))))

-- ---- objects within a line

-- the subject stands at one of the keys
abbrev pub SubjectAt : {N P : Type 0} → (N → Data) → (P → Data) → Data → Subject N P → Type 0
SubjectAt tell count d (User n) = ToldAt tell (looking d (key_text key.User)) n
SubjectAt tell count d (Ua n) = ToldAt tell (looking d (key_text key.Ua)) n
SubjectAt tell count d (Process p) = ToldAt count (looking d (key_text key.Process)) p

module _ {N P : Type 0} (tell : N → Data) (count : P → Data) (element : Data → Option N) (process : Data → Option P) (short : Short tell element) (counts : Short count process) where
  -- at what stands there
  at_its : {A : Type 0} (say : A → Data) (o p : Option Data) (a : A) → o ≡ p → 1 + text_size (say a) ≤ least p → 1 + text_size (say a) ≤ least o
  at_its say o p a same h = let e = ap least same in omega (arith, e, h)

  subject_at : (d : Data) (u a p : Option Data) → looking d (key_text key.User) ≡ u → looking d (key_text key.Ua) ≡ a → looking d (key_text key.Process) ≡ p
      → Finds (SubjectAt tell count d) (one_subject element process u a p)
  subject_at d (Some u) None None x y z = mapped (Told tell (size u)) (SubjectAt tell count d) User (element u) (short u) (λ n h. at_its tell (looking d (key_text key.User)) (Some u) n x (omega arith))
  subject_at d None (Some a) None x y z = mapped (Told tell (size a)) (SubjectAt tell count d) Ua (element a) (short a) (λ n h. at_its tell (looking d (key_text key.Ua)) (Some a) n y (omega arith))
  subject_at d None None (Some p) x y z = mapped (Told count (size p)) (SubjectAt tell count d) Process (process p) (counts p) (λ n h. at_its count (looking d (key_text key.Process)) (Some p) n z (omega arith))
  subject_at d None None None x y z = nothing _
  subject_at d (Some u) (Some a) None x y z = nothing _
  subject_at d (Some u) None (Some p) x y z = nothing _
  subject_at d None (Some a) (Some p) x y z = nothing _
  subject_at d (Some u) (Some a) (Some p) x y z = nothing _

abbrev pub one_field : Key → Data → List (List ℕ × Option Data)
one_field k d = (key_text k, Some d) ∷ []

pub only_fits : (d e : Data) (k : Key) → 1 + text_size e ≤ least (looking d (key_text k)) → text_size (only k e) ≤ size d
only_fits d e k h = object_fits d (one_field k e) (rw (plain-name (key_text k) (key_name k)) refl) (omega arith) (h, tt)

pub subject_fits : (d : Data) (s : Subject (List ℕ) ℕ) → SubjectAt name_told digits_told d s → text_size (subject_told s) ≤ size d
subject_fits d (User name) h = only_fits d (name_told name) key.User h
subject_fits d (Ua name) h = only_fits d (name_told name) key.Ua h
subject_fits d (Process n) h = only_fits d (digits_told n) key.Process h

pub subject_short : Short subject_told subject_form
subject_short d =
    weaker (SubjectAt name_told digits_told d) (Told subject_told (size d)) (subject_form d)
    (subject_at name_told digits_told name_form short_form name_short short_short d _ _ _ refl refl refl) (subject_fits d)

abbrev pub subject_by_terms : Data → Option (Subject Term ProcessTerm)
subject_by_terms d = one_subject term_form process_form (get (key_text key.User) d) (get (key_text key.Ua) d) (get (key_text key.Process) d)

pub term_subject_fits : (d : Data) (s : Subject Term ProcessTerm) → SubjectAt term_told process_told d s → text_size (term_subject_told s) ≤ size d
term_subject_fits d (User t) h = only_fits d (term_told t) key.User h
term_subject_fits d (Ua t) h = only_fits d (term_told t) key.Ua h
term_subject_fits d (Process p) h = only_fits d (process_told p) key.Process h

pub term_subject_short : Short term_subject_told subject_by_terms
term_subject_short d =
    weaker (SubjectAt term_told process_told d) (Told term_subject_told (size d)) (subject_by_terms d)
    (subject_at term_told process_told term_form process_form term_short process_short d _ _ _ refl refl refl) (term_subject_fits d)

abbrev pub NameIfAt : Option Data → Option (List ℕ) → Type 0
NameIfAt o name = cost (told.name_if name) ≤ least o

pub name_if_short : (o : Option Data) → Finds (NameIfAt o) (name_if o)
name_if_short None = found (NameIfAt None) None (omega arith)
name_if_short (Some d) = mapped (Told name_told (size d)) (NameIfAt (Some d)) Some (name_form d) (name_short d) (λ name h. omega arith)

pub when_row : (w : When) → in_row (when_fields w) ≡ true
unfolding key_text
when_row w = refl

pub when_short : Short when_told when_form
when_short d =
    let P = Told when_told (size d) in
    let on_at = ToldAt name_told (looking d (key_text key.On)) in
    let user_at = NameIfAt (looking d (key_text key.User)) in
    let target_at = NameIfAt (looking d (key_text key.Target)) in
    next on_at P _ _ (at_key name_told name_form name_short (looking d (key_text key.On))) (λ on o.
    next user_at P _ _ (name_if_short (looking d (key_text key.User))) (λ user u.
    mapped target_at P _ _ (name_if_short (looking d (key_text key.Target))) (λ target t.
    let w : When = record { on = on; user = user; target = target } in
    object_fits d (when_fields w) (when_row w) (omega arith) (o, (t, (u, tt))))))
