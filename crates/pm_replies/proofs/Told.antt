-- A reply is what the members of its line say.
use Rattle.std.proofs.Common.{◌≡◌, ◌<◌, ◌^◌, ◌==◌, ℕ, List, [], ◌∷◌, map, lt-ltb, IsTrue, Option, Some, option_and_then, unwrap_or, eqb-true, refl, sym, inl, inr}
use Rattle.std.proofs.lemmas.Bool.{cases_Bool}
use Rattle.std.specs.List.{zip}
use Rattle.serde_json.specs.Data.{number, unsigned}
use Rattle.pm_model.specs.Formed.{Each}
use Rattle.pm_model.specs.Forms.{list_of, short_form}
use Rattle.pm_model.specs.Name.{is_name}
use Rattle.pm_model.specs.Object.{items_of, whole_if}
use Rattle.pm_model.specs.Text.{change_told, count_told, fired_if, pair_told, refusal_word}
use Rattle.pm_model.specs.Words.{key_text, word_text}
use Rattle.pm_model.specs.declared.lines.BadLine.{BadLine}
use Rattle.pm_model.specs.declared.lines.BadLine.TheVariants as bad
use Rattle.pm_model.specs.declared.replies.Reason.{Reason}
use Rattle.pm_model.specs.declared.replies.Reason.TheVariants as reason
use Rattle.pm_model.specs.declared.replies.Refusal.{Refusal}
use Rattle.pm_model.specs.declared.replies.Refusal.TheVariants as refusal
use Rattle.pm_model.specs.declared.replies.Reply.{Reply}
use Rattle.pm_model.specs.declared.replies.Reply.TheVariants as reply
use Rattle.pm_model.specs.declared.replies.Shown.{Shown}
use Rattle.pm_model.specs.declared.replies.Shown.TheVariants as shown
use Rattle.pm_model.specs.declared.replies.Table.TheVariants as table
use Rattle.pm_model.specs.declared.reviews.Changed.{Changed}
use Rattle.pm_model.specs.declared.reviews.Pair.{Pair}
use Rattle.pm_print.specs.Printable.{ShowsNames, ShowsRights, names_in, names_in_reason, names_in_refusal, names_of_changes, names_of_pairs, numbers_in_shown, rights_in, rights_of_changes, rights_of_pairs}
use Rattle.pm_print.specs.Spelt.{beside}
use Rattle.pm_print.proofs.Fields.{finding}
use Rattle.pm_print.proofs.Fields.{or_none}
use Rattle.pm_print.proofs.Replying.{members, number_told, spelt_key}
use Rattle.pm_replies.specs.ByNames.{by_names, count_by_name, pair_by_name, short_numbers, without_fields}
use Rattle.pm_replies.specs.Replied as said
use Rattle.pm_replies.proofs.Hex.{set_told}

short_told : (n : ℕ) → n < 2 ^ 32 → short_form (number (unsigned n)) ≡ Some n
short_told n h = let fits = lt-ltb n (2 ^ 32) h in rw fits refl

fired_told : (fired : ℕ) → fired < 2 ^ 32 → unwrap_or (option_and_then short_form (whole_if (fired_if fired))) 0 ≡ fired
fired_told fired h = elim (cases_Bool (fired == 0)) [
  | inl none ↦ rw none (sym (eqb-true fired 0 none))
  | inr some ↦ let fits = lt-ltb fired (2 ^ 32) h in rw (some, fits) refl
]

refusal_told : (why : Refusal) → beside said.refusal_words (word_text (refusal_word why)) ≡ Some (without_fields why)
unfolding word_text
refusal_told refusal.UnknownProcess = refl
refusal_told refusal.UnknownSession = refl
refusal_told refusal.UnknownReview = refl
refusal_told refusal.BadKinds = refl
refusal_told refusal.NameTaken = refl
refusal_told refusal.Already = refl
refusal_told refusal.Absent = refl
refusal_told refusal.Cycle = refl
refusal_told refusal.Occupied = refl
refusal_told refusal.InUse = refl
refusal_told refusal.LastContainer = refl
refusal_told refusal.Builtin = refl
refusal_told refusal.EmptyRange = refl
refusal_told (refusal.UnknownName name) = refl
refusal_told (refusal.Denied right target why) = refl
refusal_told (refusal.Full table) = refl

abbrev pub Told : Option ℕ → ℕ → (ℕ → List ℕ) → Reply → Type 0
Told id v names told = said.replied (finding (members id v names told)) ≡ Some (record { id = id; version = v; text = by_names names told })

module _ (id : Option ℕ) (v : ℕ) (names : ℕ → List ℕ) where
  told_bad : (line : BadLine) → Told id v names (reply.Bad line)
  unfolding key_text word_text
  told_bad bad.TooLong = rw (or_none (whole_if id), number_told id) refl
  told_bad bad.NotJson = rw (or_none (whole_if id), number_told id) refl
  told_bad bad.NotRequest = rw (or_none (whole_if id), number_told id) refl
  told_bad bad.UnknownCommand = rw (or_none (whole_if id), number_told id) refl
  told_bad (bad.BadField k) = let found = spelt_key k in rw (or_none (whole_if id), number_told id, found) refl

  told_denied : (right : List ℕ) (target : ℕ) (why : Reason) → ShowsNames (right ∷ names target ∷ names_in_reason names why)
      → Told id v names (reply.Refused (refusal.Denied right target why))
  unfolding key_text word_text
  told_denied right target (reason.Class pc) h =
      let r = h.0 in let t = h.1.0 in let p = h.1.1.0 in
      rw (or_none (whole_if id), number_told id, r, t, p) refl
  told_denied right target (reason.Prohibition name) h =
      let r = h.0 in let t = h.1.0 in let p = h.1.1.0 in
      rw (or_none (whole_if id), number_told id, r, t, p) refl

  told_refused : (why : Refusal) → ShowsNames (names_in_refusal names why) → Told id v names (reply.Refused why)
  unfolding key_text word_text
  told_refused refusal.UnknownProcess h = rw (or_none (whole_if id), number_told id) refl
  told_refused refusal.UnknownSession h = rw (or_none (whole_if id), number_told id) refl
  told_refused refusal.UnknownReview h = rw (or_none (whole_if id), number_told id) refl
  told_refused refusal.BadKinds h = rw (or_none (whole_if id), number_told id) refl
  told_refused refusal.NameTaken h = rw (or_none (whole_if id), number_told id) refl
  told_refused refusal.Already h = rw (or_none (whole_if id), number_told id) refl
  told_refused refusal.Absent h = rw (or_none (whole_if id), number_told id) refl
  told_refused refusal.Cycle h = rw (or_none (whole_if id), number_told id) refl
  told_refused refusal.Occupied h = rw (or_none (whole_if id), number_told id) refl
  told_refused refusal.InUse h = rw (or_none (whole_if id), number_told id) refl
  told_refused refusal.LastContainer h = rw (or_none (whole_if id), number_told id) refl
  told_refused refusal.Builtin h = rw (or_none (whole_if id), number_told id) refl
  told_refused refusal.EmptyRange h = rw (or_none (whole_if id), number_told id) refl
  told_refused (refusal.UnknownName name) h = let n = h.0 in rw (or_none (whole_if id), number_told id, n) refl
  told_refused (refusal.Denied right target why) h = told_denied right target why h
  told_refused (refusal.Full table.Elements) h = rw (or_none (whole_if id), number_told id) refl
  told_refused (refusal.Full table.Assignments) h = rw (or_none (whole_if id), number_told id) refl
  told_refused (refusal.Full table.Associations) h = rw (or_none (whole_if id), number_told id) refl
  told_refused (refusal.Full table.Prohibitions) h = rw (or_none (whole_if id), number_told id) refl
  told_refused (refusal.Full table.Obligations) h = rw (or_none (whole_if id), number_told id) refl
  told_refused (refusal.Full table.Sessions) h = rw (or_none (whole_if id), number_told id) refl
  told_refused (refusal.Full table.Processes) h = rw (or_none (whole_if id), number_told id) refl
  told_refused (refusal.Full table.Reviews) h = rw (or_none (whole_if id), number_told id) refl
  told_refused (refusal.Full table.Rights) h = rw (or_none (whole_if id), number_told id) refl
  told_refused (refusal.Full table.History) h = rw (or_none (whole_if id), number_told id) refl

  told_done : (fired : ℕ) (made : Shown) → fired < 2 ^ 32 → Each (λ n. n < 2 ^ 32) (numbers_in_shown made) → Told id v names (reply.Done fired made)
  unfolding key_text word_text
  told_done fired shown.Nothing f m = let t = fired_told fired f in rw (or_none (whole_if id), number_told id, or_none (whole_if (fired_if fired)), t) refl
  told_done fired (shown.Session n) f m =
      let t = fired_told fired f in let fits = lt-ltb n (2 ^ 32) m.0 in rw (or_none (whole_if id), number_told id, or_none (whole_if (fired_if fired)), t, fits) refl
  told_done fired (shown.Process n) f m =
      let t = fired_told fired f in let fits = lt-ltb n (2 ^ 32) m.0 in rw (or_none (whole_if id), number_told id, or_none (whole_if (fired_if fired)), t, fits) refl
  told_done fired (shown.Review n) f m =
      let t = fired_told fired f in let fits = lt-ltb n (2 ^ 32) m.0 in rw (or_none (whole_if id), number_told id, or_none (whole_if (fired_if fired)), t, fits) refl

  told_granted : (fired : ℕ) → fired < 2 ^ 32 → Told id v names (reply.Granted fired)
  unfolding key_text word_text
  told_granted fired f = let t = fired_told fired f in rw (or_none (whole_if id), number_told id, or_none (whole_if (fired_if fired)), t) refl

  told_response : (obligation : List ℕ) (action : ℕ) (why : Refusal) → IsTrue (is_name obligation) → action < 2 ^ 32
      → Told id v names (reply.ResponseRefused obligation action why)
  unfolding key_text word_text
  told_response obligation action why h a =
      let w = refusal_told why in let fits = lt-ltb action (2 ^ 32) a in rw (or_none (whole_if id), number_told id, h, fits, w) refl

  told_pairs : (list : List Pair) → ShowsRights (rights_of_pairs list) → ShowsNames (names_of_pairs names list) →
      list_of said.pair_form (items_of (map (pair_told names) list)) ≡ Some (map (pair_by_name names) list)
  told_pairs [] m h = refl
  told_pairs (p ∷ ps) m h = let name = h.0 in let here = set_told p.rights m.0 in let rest = told_pairs ps m.1 h.1 in rw (name, here, rest) refl

  told_counts : (users counts : List ℕ) → ShowsNames (map names users) →
      list_of said.count_form (items_of (map (count_told names) (zip users counts))) ≡ Some (map (count_by_name names) (zip users counts))
  told_counts [] counts h = refl
  told_counts (u ∷ us) [] h = refl
  told_counts (u ∷ us) (n ∷ ns) h = let name = h.0 in let rest = told_counts us ns h.1 in rw (name, rest) refl

  told_changes : (list : List Changed) → ShowsRights (rights_of_changes list) → ShowsNames (names_of_changes list) →
      list_of said.change_form (items_of (map change_told list)) ≡ Some list
  told_changes [] m h = refl
  told_changes (c ∷ cs) m h =
      let name = h.0 in
      let was = set_told c.old m.0 in
      let is = set_told c.new m.1.0 in
      let rest = told_changes cs m.1.1 h.1 in
      rw (name, was, is, rest) refl

  pub told : (answer : Reply) → ShowsRights (rights_in answer) → ShowsNames (names_in names answer) → Each (λ n. n < 2 ^ 32) (short_numbers answer)
      → Told id v names answer
  unfolding key_text word_text
  told (reply.Done fired made) m h s = told_done fired made s.0 s.1
  told (reply.Granted fired) m h s = told_granted fired s.0
  told (reply.Caps list) m h s = let t = told_pairs list m h in rw (or_none (whole_if id), number_told id, t) refl
  told (reply.Entries list) m h s = let t = told_pairs list m h in rw (or_none (whole_if id), number_told id, t) refl
  told (reply.Survey users counts) m h s = let t = told_counts users counts h in rw (or_none (whole_if id), number_told id, t) refl
  told (reply.Kept list) m h s = let t = told_pairs list m h in rw (or_none (whole_if id), number_told id, t) refl
  told (reply.Changes at list) m h s = let t = told_changes list m h in rw (or_none (whole_if id), number_told id, t) refl
  told (reply.Bad line) m h s = told_bad line
  told reply.Ahead m h s = rw (or_none (whole_if id), number_told id) refl
  told (reply.Refused why) m h s = told_refused why h
  told (reply.ResponseRefused obligation action why) m h s = told_response obligation action why h.0 s.0
  told reply.KeepFault m h s = rw (or_none (whole_if id), number_told id) refl
