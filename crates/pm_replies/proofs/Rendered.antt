-- What a reply shows is what the reply with names shows: two that are one with names have one text.
use Rattle.std.proofs.Common.{◌≡◌, ℕ, List, [], ◌∷◌, map, Option, None, Some, refl, sym, ap, ap₂, ◌∙◌}
use Rattle.std.specs.List.{zip}
use Rattle.serde_json.specs.Data.{Data, number, string, unsigned}
use Rattle.pm_model.specs.Object.{line_of, listed, texted, whole, whole_if}
use Rattle.pm_model.specs.Text.{back, bad_front, changes_front, count_told, done_front, front, full_front, granted_front, no_front, pair_told, refusal_front, refusal_word, rights_text, said, text, unknown_front, with_version}
use Rattle.pm_model.specs.Words.{key_text}
use Rattle.pm_model.specs.declared.lines.Head.{Head}
use Rattle.pm_model.specs.declared.replies.Reason.TheVariants as reason
use Rattle.pm_model.specs.declared.replies.Refusal.{Refusal}
use Rattle.pm_model.specs.declared.replies.Refusal.TheVariants as refusal
use Rattle.pm_model.specs.declared.replies.Reply.{Reply}
use Rattle.pm_model.specs.declared.replies.Reply.TheVariants as reply
use Rattle.pm_model.specs.declared.reviews.Pair.{Pair}
use Rattle.pm_model.specs.declared.words.Key.TheVariants as key
use Rattle.pm_model.specs.declared.words.Word.{Word}
use Rattle.pm_model.specs.declared.words.Word.TheVariants as word
use Rattle.pm_replies.specs.ByNames.{by_names, count_by_name, pair_by_name, refusal_by_names, without_fields}
use Rattle.pm_replies.specs.declared.texts.ReasonText.{ReasonText}
use Rattle.pm_replies.specs.declared.texts.ReasonText.TheVariants.{Class, Prohibition}
use Rattle.pm_replies.specs.declared.texts.RefusalText.{RefusalText}
use Rattle.pm_replies.specs.declared.texts.RefusalText.TheVariants as text_of
use Rattle.pm_replies.specs.declared.texts.RefusalWord.{RefusalWord}
use Rattle.pm_replies.specs.declared.texts.RefusalWord.TheVariants as bare
use Rattle.pm_replies.specs.declared.texts.ReplyText.{ReplyText}
use Rattle.pm_replies.specs.declared.texts.ReplyText.TheVariants.{Done, Granted, Caps, Entries, Survey, Kept, Changes, Bad, Ahead, Refused, ResponseRefused, KeepFault}
use Rattle.pm_replies.specs.declared.texts.TextCount.{TextCount}
use Rattle.pm_replies.specs.declared.texts.TextPair.{TextPair}

abbrev Fields : Type 0
Fields = List (List ℕ × Option Data)

abbrev pair_data : TextPair → Data
pair_data p = listed (string p.name ∷ string (rights_text p.rights) ∷ [])

abbrev count_data : TextCount → Data
count_data c = listed (string c.name ∷ number (unsigned c.count) ∷ [])

abbrev class_of : ReasonText → Option Data
class_of (Class name) = texted name
class_of (Prohibition name) = None

abbrev prohibition_of : ReasonText → Option Data
prohibition_of (Class name) = None
prohibition_of (Prohibition name) = texted name

abbrev word_of : RefusalWord → Word
word_of bare.UnknownProcess = word.UnknownProcess
word_of bare.UnknownSession = word.UnknownSession
word_of bare.UnknownReview = word.UnknownReview
word_of bare.BadKinds = word.BadKinds
word_of bare.NameTaken = word.NameTaken
word_of bare.Already = word.Already
word_of bare.Absent = word.Absent
word_of bare.Cycle = word.Cycle
word_of bare.Occupied = word.Occupied
word_of bare.InUse = word.InUse
word_of bare.LastContainer = word.LastContainer
word_of bare.Builtin = word.Builtin
word_of bare.EmptyRange = word.EmptyRange
word_of bare.UnknownName = word.UnknownName
word_of bare.Denied = word.Denied
word_of bare.Full = word.Full

-- the members of a reply with names
module _ (h : Head) where
  abbrev refusal_fields : RefusalText → Fields
  refusal_fields text_of.UnknownProcess = no_front h word.UnknownProcess
  refusal_fields text_of.UnknownSession = no_front h word.UnknownSession
  refusal_fields text_of.UnknownReview = no_front h word.UnknownReview
  refusal_fields text_of.BadKinds = no_front h word.BadKinds
  refusal_fields text_of.NameTaken = no_front h word.NameTaken
  refusal_fields text_of.Already = no_front h word.Already
  refusal_fields text_of.Absent = no_front h word.Absent
  refusal_fields text_of.Cycle = no_front h word.Cycle
  refusal_fields text_of.Occupied = no_front h word.Occupied
  refusal_fields text_of.InUse = no_front h word.InUse
  refusal_fields text_of.LastContainer = no_front h word.LastContainer
  refusal_fields text_of.Builtin = no_front h word.Builtin
  refusal_fields text_of.EmptyRange = no_front h word.EmptyRange
  refusal_fields (text_of.UnknownName name) = unknown_front h name
  refusal_fields (text_of.Denied right target why) =
      (key_text key.Class, class_of why) ∷ (key_text key.Id, whole_if h.id) ∷ (key_text key.No, said word.Denied)
      ∷ (key_text key.Prohibition, prohibition_of why) ∷ (key_text key.Right, texted right) ∷ (key_text key.Target, texted target) ∷ []
  refusal_fields (text_of.Full table) = full_front h table

  abbrev list_fields : Word → List Data → Fields
  list_fields what items = (key_text key.Id, whole_if h.id) ∷ (key_text key.List, Some (listed items)) ∷ (key_text key.Ok, said what) ∷ []

  abbrev survey_fields : List Data → Fields
  survey_fields items = (key_text key.Counts, Some (listed items)) ∷ (key_text key.Id, whole_if h.id) ∷ (key_text key.Ok, said word.Survey) ∷ []

  abbrev fields : ReplyText → Fields
  fields (Done fired made) = done_front h fired made
  fields (Granted fired) = granted_front h fired
  fields (Caps list) = list_fields word.Caps (map pair_data list)
  fields (Entries list) = list_fields word.Entries (map pair_data list)
  fields (Survey list) = survey_fields (map count_data list)
  fields (Kept list) = list_fields word.Kept (map pair_data list)
  fields (Changes at list) = changes_front h at list
  fields (Bad bad) = bad_front h bad
  fields Ahead = no_front h word.Ahead
  fields (Refused why) = refusal_fields why
  fields (ResponseRefused obligation action why) =
      (key_text key.Action, whole action) ∷ (key_text key.Id, whole_if h.id) ∷ (key_text key.No, said word.ResponseRefused)
      ∷ (key_text key.Obligation, texted obligation) ∷ []
  fields KeepFault = no_front h word.KeepFault

abbrev behind : ReplyText → Fields
behind (ResponseRefused obligation action why) = (key_text key.Why, said (word_of why)) ∷ []
behind _ = []

abbrev rendered : Option ℕ → ℕ → ReplyText → List ℕ
rendered id v t = line_of (with_version v (fields (record { id = id }) t) (behind t))

word_kept : (why : Refusal) → refusal_word why ≡ word_of (without_fields why)
word_kept refusal.UnknownProcess = refl
word_kept refusal.UnknownSession = refl
word_kept refusal.UnknownReview = refl
word_kept refusal.BadKinds = refl
word_kept refusal.NameTaken = refl
word_kept refusal.Already = refl
word_kept refusal.Absent = refl
word_kept refusal.Cycle = refl
word_kept refusal.Occupied = refl
word_kept refusal.InUse = refl
word_kept refusal.LastContainer = refl
word_kept refusal.Builtin = refl
word_kept refusal.EmptyRange = refl
word_kept (refusal.UnknownName name) = refl
word_kept (refusal.Denied right target why) = refl
word_kept (refusal.Full table) = refl

module _ (names : ℕ → List ℕ) where
  pairs_kept : (list : List Pair) → map (pair_told names) list ≡ map pair_data (map (pair_by_name names) list)
  pairs_kept [] = refl
  pairs_kept (p ∷ ps) = ap (λ ds. pair_told names p ∷ ds) (pairs_kept ps)

  counts_kept : (list : List (ℕ × ℕ)) → map (count_told names) list ≡ map count_data (map (count_by_name names) list)
  counts_kept [] = refl
  counts_kept (c ∷ cs) = ap (λ ds. count_told names c ∷ ds) (counts_kept cs)

  refusal_kept : (h : Head) (why : Refusal) → refusal_front h names why ≡ refusal_fields h (refusal_by_names names why)
  refusal_kept h refusal.UnknownProcess = refl
  refusal_kept h refusal.UnknownSession = refl
  refusal_kept h refusal.UnknownReview = refl
  refusal_kept h refusal.BadKinds = refl
  refusal_kept h refusal.NameTaken = refl
  refusal_kept h refusal.Already = refl
  refusal_kept h refusal.Absent = refl
  refusal_kept h refusal.Cycle = refl
  refusal_kept h refusal.Occupied = refl
  refusal_kept h refusal.InUse = refl
  refusal_kept h refusal.LastContainer = refl
  refusal_kept h refusal.Builtin = refl
  refusal_kept h refusal.EmptyRange = refl
  refusal_kept h (refusal.UnknownName name) = refl
  refusal_kept h (refusal.Denied right target (reason.Class pc)) = refl
  refusal_kept h (refusal.Denied right target (reason.Prohibition name)) = refl
  refusal_kept h (refusal.Full table) = refl

  front_kept : (h : Head) (told : Reply) → front h names told ≡ fields h (by_names names told)
  front_kept h (reply.Done fired made) = refl
  front_kept h (reply.Granted fired) = refl
  front_kept h (reply.Caps list) = ap (list_fields h word.Caps) (pairs_kept list)
  front_kept h (reply.Entries list) = ap (list_fields h word.Entries) (pairs_kept list)
  front_kept h (reply.Survey users counts) = ap (survey_fields h) (counts_kept (zip users counts))
  front_kept h (reply.Kept list) = ap (list_fields h word.Kept) (pairs_kept list)
  front_kept h (reply.Changes at list) = refl
  front_kept h (reply.Bad bad) = refl
  front_kept h reply.Ahead = refl
  front_kept h (reply.Refused why) = refusal_kept h why
  front_kept h (reply.ResponseRefused obligation action why) = refl
  front_kept h reply.KeepFault = refl

  back_kept : (told : Reply) → back told ≡ behind (by_names names told)
  back_kept (reply.Done fired made) = refl
  back_kept (reply.Granted fired) = refl
  back_kept (reply.Caps list) = refl
  back_kept (reply.Entries list) = refl
  back_kept (reply.Survey users counts) = refl
  back_kept (reply.Kept list) = refl
  back_kept (reply.Changes at list) = refl
  back_kept (reply.Bad bad) = refl
  back_kept reply.Ahead = refl
  back_kept (reply.Refused why) = refl
  back_kept (reply.ResponseRefused obligation action why) = ap (λ w. (key_text key.Why, said w) ∷ []) (word_kept why)
  back_kept reply.KeepFault = refl

  text_kept : (id : Option ℕ) (v : ℕ) (told : Reply) → text id v names told ≡ rendered id v (by_names names told)
  text_kept id v told =
      ap₂ (λ (before after : Fields). line_of (with_version v before after)) (front_kept (record { id = id }) told) (back_kept told)

-- one reply with names has one text
pub same_text : (id : Option ℕ) (v : ℕ) (names others : ℕ → List ℕ) (told other : Reply) → by_names names told ≡ by_names others other
    → text id v names told ≡ text id v others other
same_text id v names others told other e = text_kept names id v told ∙ (ap (rendered id v) e ∙ sym (text_kept others id v other))
