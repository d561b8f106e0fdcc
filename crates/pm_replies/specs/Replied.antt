-- What a reply's line says, by a look-up of its members. Nothing is refused here that the comparison with the reply's text
-- refuses.
use Rattle.std.specs.Prelude.{◌≡◌, ◌^◌, ℕ, List, [], ◌∷◌, ◌&&◌, Bool, length, nat_lt, bytes_eq, if◌then◌else◌, Option, None, Some, MatchOption, option_and_then, option_map, unwrap_or}
use Rattle.std.specs.List.{list_all}
use Rattle.std.specs.Char.{digit_value}
use Rattle.std.specs.Str.Parse.{digits_value, without_leading_plus}
use Rattle.serde_json.specs.Data.{Data}
use Rattle.serde_json.specs.Find.{as_array, as_str, at}
use Rattle.pm_model.specs.Forms.{list_of, name_form, short_form, whole_form}
use Rattle.pm_model.specs.RightSet.{right_bits}
use Rattle.pm_model.specs.Words.{key_text, word_text}
use Rattle.pm_model.specs.declared.lines.BadLine.{BadLine}
use Rattle.pm_model.specs.declared.lines.BadLine.TheVariants as bad
use Rattle.pm_model.specs.declared.replies.Shown.{Shown}
use Rattle.pm_model.specs.declared.replies.Shown.TheVariants as shown
use Rattle.pm_model.specs.declared.reviews.Changed.{Changed}
use Rattle.pm_model.specs.declared.words.Key.{Key}
use Rattle.pm_model.specs.declared.words.Key.TheVariants as key
use Rattle.pm_model.specs.declared.words.Word.{Word}
use Rattle.pm_model.specs.declared.words.Word.TheVariants as word
use Rattle.pm_print.specs.Spelt.{beside, keys, spelt, table_words}
use Rattle.pm_replies.specs.ByNames.{IsTextOf}
use Rattle.pm_replies.specs.declared.texts.ReasonText.{ReasonText}
use Rattle.pm_replies.specs.declared.texts.ReasonText.TheVariants.{Class, Prohibition}
use Rattle.pm_replies.specs.declared.texts.RefusalText.{RefusalText}
use Rattle.pm_replies.specs.declared.texts.RefusalText.TheVariants as text_of
use Rattle.pm_replies.specs.declared.texts.RefusalWord.{RefusalWord}
use Rattle.pm_replies.specs.declared.texts.RefusalWord.TheVariants as bare
use Rattle.pm_replies.specs.declared.texts.ReplyLine.{ReplyLine}
use Rattle.pm_replies.specs.declared.texts.ReplyText.{ReplyText}
use Rattle.pm_replies.specs.declared.texts.ReplyText.TheVariants.{Done, Granted, Caps, Entries, Survey, Kept, Changes, Bad, Ahead, Refused, ResponseRefused, KeepFault}
use Rattle.pm_replies.specs.declared.texts.TextCount.{TextCount}
use Rattle.pm_replies.specs.declared.texts.TextPair.{TextPair}

-- the words of refusals
abbrev pub refusal_words : List (Word × RefusalWord)
refusal_words =
    (word.UnknownProcess, bare.UnknownProcess) ∷ (word.UnknownSession, bare.UnknownSession) ∷ (word.UnknownReview, bare.UnknownReview)
    ∷ (word.UnknownName, bare.UnknownName) ∷ (word.Denied, bare.Denied) ∷ (word.BadKinds, bare.BadKinds)
    ∷ (word.NameTaken, bare.NameTaken) ∷ (word.Already, bare.Already) ∷ (word.Absent, bare.Absent) ∷ (word.Cycle, bare.Cycle)
    ∷ (word.Occupied, bare.Occupied) ∷ (word.InUse, bare.InUse) ∷ (word.LastContainer, bare.LastContainer)
    ∷ (word.Builtin, bare.Builtin) ∷ (word.EmptyRange, bare.EmptyRange) ∷ (word.Full, bare.Full) ∷ []

-- what stands beside the first of the words that is this one, where there is something
abbrev pub chosen : {A : Type 0} → List (Word × Option A) → List ℕ → Option A
chosen [] w = None
chosen (p ∷ ps) w = if bytes_eq w (word_text p.0) then p.1 else chosen ps w

-- ---- items of lists

abbrev pub is_hex : List ℕ → Bool
is_hex ds = nat_lt 0 (length ds) && list_all (λ c. nat_lt (digit_value c) 16) ds

abbrev pub if_set : List ℕ → Option ℕ
if_set ds = if is_hex ds && nat_lt (digits_value 16 ds) (2 ^ right_bits) then Some (digits_value 16 ds) else None

-- a set of rights, by hexadecimal digits
abbrev pub rights_form : Data → Option ℕ
rights_form d = option_and_then (λ s. if_set (without_leading_plus s)) (as_str d)

abbrev pub name_in : ℕ → Data → Option (List ℕ)
name_in i d = option_and_then name_form (at i d)

abbrev pub rights_in : ℕ → Data → Option ℕ
rights_in i d = option_and_then rights_form (at i d)

-- a name and a set of rights
abbrev pub pair_form : Data → Option TextPair
pair_form d = option_and_then (λ name. option_map (λ rights. record { name = name; rights = rights }) (rights_in 1 d)) (name_in 0 d)

-- a name and a number
abbrev pub count_form : Data → Option TextCount
count_form d = option_and_then (λ name. option_map (λ n. record { name = name; count = n }) (option_and_then whole_form (at 1 d))) (name_in 0 d)

-- a name and two sets of rights
abbrev pub change_form : Data → Option Changed
change_form d =
    option_and_then (λ name. option_and_then (λ old. option_map (λ new. record { name = name; old = old; new = new }) (rights_in 2 d))
    (rights_in 1 d)) (name_in 0 d)

-- ---- members

-- by the number of a process, or else of a review, or else of a session
abbrev pub made_by : Option ℕ → Option ℕ → Option ℕ → Shown
made_by (Some n) _ _ = shown.Process n
made_by None (Some n) _ = shown.Review n
made_by None None (Some n) = shown.Session n
made_by None None None = shown.Nothing

-- a class, or else a prohibition
abbrev pub reason_by : Option (List ℕ) → Option (List ℕ) → Option ReasonText
reason_by (Some class) _ = Some (Class class)
reason_by None (Some prohibition) = Some (Prohibition prohibition)
reason_by None None = None

module _ (look : List ℕ → Option Data) where
  abbrev pub text_at : Key → Option (List ℕ)
  text_at k = option_and_then as_str (look (key_text k))

  abbrev pub name_at : Key → Option (List ℕ)
  name_at k = option_and_then name_form (look (key_text k))

  abbrev pub short_at : Key → Option ℕ
  short_at k = option_and_then short_form (look (key_text k))

  abbrev pub whole_at : Key → Option ℕ
  whole_at k = option_and_then whole_form (look (key_text k))

  abbrev pub list_at : {A : Type 0} → Key → (Data → Option A) → Option (List A)
  list_at k form = option_and_then (list_of form) (option_and_then as_array (look (key_text k)))

  -- none responded where no number is told
  abbrev pub fired : ℕ
  fired = unwrap_or (short_at key.Fired) 0

  abbrev pub made : Shown
  made = made_by (short_at key.Process) (short_at key.Review) (short_at key.Session)

  abbrev pub changes : Option ReplyText
  changes = option_and_then (λ since. option_map (Changes since) (list_at key.List change_form)) (whole_at key.At)

  abbrev pub ok_texts : List (Word × Option ReplyText)
  ok_texts =
      (word.Done, Some (Done fired made)) ∷ (word.Granted, Some (Granted fired))
      ∷ (word.Caps, option_map Caps (list_at key.List pair_form)) ∷ (word.Entries, option_map Entries (list_at key.List pair_form))
      ∷ (word.Survey, option_map Survey (list_at key.Counts count_form)) ∷ (word.Kept, option_map Kept (list_at key.List pair_form))
      ∷ (word.Changes, changes) ∷ []

  abbrev pub bad_field : Option BadLine
  bad_field = option_map bad.BadField (option_and_then (spelt keys) (text_at key.Field))

  abbrev pub bad_lines : List (Word × Option BadLine)
  bad_lines =
      (word.TooLong, Some bad.TooLong) ∷ (word.NotJson, Some bad.NotJson) ∷ (word.NotRequest, Some bad.NotRequest)
      ∷ (word.UnknownCommand, Some bad.UnknownCommand) ∷ (word.BadField, bad_field) ∷ []

  abbrev pub denial : Option RefusalText
  denial =
      option_and_then (λ right. option_and_then (λ target. option_map (text_of.Denied right target)
      (reason_by (name_at key.Class) (name_at key.Prohibition))) (name_at key.Target)) (name_at key.Right)

  -- the refusal of a word
  abbrev pub refused : RefusalWord → Option RefusalText
  refused bare.UnknownProcess = Some text_of.UnknownProcess
  refused bare.UnknownSession = Some text_of.UnknownSession
  refused bare.UnknownReview = Some text_of.UnknownReview
  refused bare.UnknownName = option_map text_of.UnknownName (name_at key.Name)
  refused bare.Denied = denial
  refused bare.BadKinds = Some text_of.BadKinds
  refused bare.NameTaken = Some text_of.NameTaken
  refused bare.Already = Some text_of.Already
  refused bare.Absent = Some text_of.Absent
  refused bare.Cycle = Some text_of.Cycle
  refused bare.Occupied = Some text_of.Occupied
  refused bare.InUse = Some text_of.InUse
  refused bare.LastContainer = Some text_of.LastContainer
  refused bare.Builtin = Some text_of.Builtin
  refused bare.EmptyRange = Some text_of.EmptyRange
  refused bare.Full = option_map text_of.Full (option_and_then (beside table_words) (text_at key.Table))

  abbrev pub response_refused : Option ReplyText
  response_refused =
      option_and_then (λ obligation. option_and_then (λ action. option_map (ResponseRefused obligation action)
      (option_and_then (beside refusal_words) (text_at key.Why))) (short_at key.Action)) (name_at key.Obligation)

  abbrev pub other_texts : List (Word × Option ReplyText)
  other_texts = (word.Ahead, Some Ahead) ∷ (word.ResponseRefused, response_refused) ∷ (word.KeepFault, Some KeepFault) ∷ []

  -- a bad line, or one of the others
  abbrev pub unrefused_by : Option BadLine → List ℕ → Option ReplyText
  unrefused_by (Some line) w = Some (Bad line)
  unrefused_by None w = chosen other_texts w

  -- a refusal, a bad line, or one of the others
  abbrev pub no_text_by : Option RefusalWord → List ℕ → Option ReplyText
  no_text_by (Some why) w = option_map Refused (refused why)
  no_text_by None w = unrefused_by (chosen bad_lines w) w

  -- by the word at `no`, or else at `ok`
  abbrev pub reply_by : Option (List ℕ) → Option (List ℕ) → Option ReplyText
  reply_by (Some w) _ = no_text_by (beside refusal_words w) w
  reply_by None (Some w) = chosen ok_texts w
  reply_by None None = None

  abbrev pub reply_text : Option ReplyText
  reply_text = reply_by (text_at key.No) (text_at key.Ok)

  abbrev pub replied : Option ReplyLine
  replied =
      option_and_then (λ text. option_map (λ version. record { id = whole_at key.Id; version = version; text = text }) (whole_at key.V))
      reply_text

-- what is replied, once it was compared with the line: no reply where what the members say has another text
abbrev pub Confirms : List ℕ → (List ℕ → Option Data) → Option ReplyLine → Type 0
Confirms line look o =
    MatchOption o ((said : ReplyLine) → replied look ≡ Some said → IsTextOf line said → ⊥)
    (λ said. (replied look ≡ Some said) × IsTextOf line said)
