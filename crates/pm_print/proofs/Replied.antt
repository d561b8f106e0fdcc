-- What a reply's line says, by a look-up of its members.
use Rattle.std.proofs.Common.{ℕ, List, [], ◌∷◌, Option, None, Some, option_and_then, option_map, unwrap_or}
use Rattle.std.specs.Str.Parse.{digits_value}
use Rattle.serde_json.specs.Data.{Data, array, string, number, unsigned, item, no_items}
use Rattle.serde_json.specs.Find.{as_str, as_array}
use Rattle.pm_model.specs.Forms.{list_of, name_form, whole_form}
use Rattle.pm_model.specs.Words.{key_text}
use Rattle.pm_model.specs.declared.words.Key.{Key}
use Rattle.pm_model.specs.declared.words.Key.TheVariants as key
use Rattle.pm_model.specs.declared.words.Word.{Word}
use Rattle.pm_model.specs.declared.words.Word.TheVariants as word
use Rattle.pm_model.specs.declared.lines.BadLine.TheVariants.{TooLong, NotJson, NotRequest, UnknownCommand, BadField}
use Rattle.pm_model.specs.declared.replies.Refusal.TheVariants as refusal
use Rattle.pm_model.specs.declared.replies.Reply.TheVariants.{Done, Granted, Changes, Bad, Ahead, Refused, KeepFault}
use Rattle.pm_model.specs.declared.reviews.Changed.{Changed}
use Rattle.pm_model.specs.declared.replies.Shown as made
use Rattle.pm_model.specs.declared.replies.Shown.TheVariants as shown
use Rattle.pm_print.specs.Spelt.{beside, keys, spelt, table_words}
use Rattle.pm_print.specs.Shown.{Shown, plain, denied, prohibited, response_refused, reviewed, surveyed}

pub record Said : Type 0 where
  pub id : Option ℕ
  pub version : ℕ
  pub shown : Shown

abbrev pub refusal_words : List (Word × Word)
refusal_words =
    each_word (word.UnknownProcess ∷ word.UnknownSession ∷ word.UnknownReview ∷ word.UnknownName ∷ word.Denied ∷ word.BadKinds ∷ word.NameTaken
    ∷ word.Already ∷ word.Absent ∷ word.Cycle ∷ word.Occupied ∷ word.InUse ∷ word.LastContainer
    ∷ word.Builtin ∷ word.EmptyRange ∷ word.Full ∷ []) where
      -- each beside itself
      each_word : List Word → List (Word × Word)
      each_word [] = []
      each_word (w ∷ ws) = (w, w) ∷ each_word ws

-- by the number of a process, or else of a review, or else of a session
abbrev pub made_by : Option ℕ → Option ℕ → Option ℕ → made.Shown
made_by (Some n) _ _ = shown.Process n
made_by None (Some n) _ = shown.Review n
made_by None None (Some n) = shown.Session n
made_by None None None = shown.Nothing

-- for a class, or else for a prohibition
abbrev pub denied_by : List ℕ → List ℕ → Option (List ℕ) → Option (List ℕ) → Option Shown
denied_by right target (Some pc) _ = Some (denied right target pc)
denied_by right target None (Some prohibition) = Some (prohibited right target prohibition)
denied_by right target None None = None

-- an item that is a name and a set of rights, one that is a name and two such sets, and one that is a name and a number
abbrev pub pair_read : Data → Option (List ℕ × ℕ)
pair_read (array (item (string name) (item (string rights) no_items))) = Some (name, digits_value 16 rights)
pair_read _ = None

abbrev pub change_read : Data → Option Changed
change_read (array (item (string name) (item (string old) (item (string new) no_items)))) =
    Some (record { name = name; old = digits_value 16 old; new = digits_value 16 new })
change_read _ = None

abbrev pub count_read : Data → Option (List ℕ × ℕ)
count_read (array (item (string name) (item (number (unsigned n)) no_items))) = Some (name, n)
count_read _ = None

module _ (look : List ℕ → Option Data) where
  abbrev pub text_at : Key → Option (List ℕ)
  text_at k = option_and_then as_str (look (key_text k))

  abbrev pub name_at : Key → Option (List ℕ)
  name_at k = option_and_then name_form (look (key_text k))

  abbrev pub number_at : Key → Option ℕ
  number_at k = option_and_then whole_form (look (key_text k))

  -- none responded where no number is told
  abbrev pub fired : ℕ
  fired = unwrap_or (number_at key.Fired) 0

  abbrev pub done : Shown
  done = plain (Done fired (made_by (number_at key.Process) (number_at key.Review) (number_at key.Session)))

  abbrev pub bad_field : Option Shown
  bad_field = option_map (λ k. plain (Bad (BadField k))) (option_and_then (spelt keys) (text_at key.Field))

  abbrev pub unknown_name : Option Shown
  unknown_name = option_map (λ name. plain (Refused (refusal.UnknownName name))) (name_at key.Name)

  abbrev pub denial : Option Shown
  denial =
      option_and_then (λ right. option_and_then (λ target. denied_by right target (name_at key.Class) (name_at key.Prohibition))
      (name_at key.Target)) (name_at key.Right)

  abbrev pub full : Option Shown
  full = option_map (λ t. plain (Refused (refusal.Full t))) (option_and_then (beside table_words) (text_at key.Table))

  abbrev pub response : Option Shown
  response =
      option_and_then (λ obligation. option_and_then (λ action. option_map (response_refused obligation action)
      (option_and_then (beside refusal_words) (text_at key.Why))) (number_at key.Action)) (name_at key.Obligation)

  abbrev pub list_at : {A : Type 0} → Key → (Data → Option A) → Option (List A)
  list_at k form = option_and_then (list_of form) (option_and_then as_array (look (key_text k)))

  abbrev pub changes : Option Shown
  changes = option_and_then (λ at. option_map (λ list. plain (Changes at list)) (list_at key.List change_read)) (number_at key.At)

  abbrev pub ok_words : List (Word × Option Shown)
  ok_words =
      (word.Done, Some done) ∷ (word.Granted, Some (plain (Granted fired)))
      ∷ (word.Caps, option_map (reviewed word.Caps) (list_at key.List pair_read))
      ∷ (word.Entries, option_map (reviewed word.Entries) (list_at key.List pair_read))
      ∷ (word.Survey, option_map surveyed (list_at key.Counts count_read))
      ∷ (word.Kept, option_map (reviewed word.Kept) (list_at key.List pair_read)) ∷ (word.Changes, changes) ∷ []

  abbrev pub no_words : List (Word × Option Shown)
  no_words =
      (word.TooLong, Some (plain (Bad TooLong))) ∷ (word.NotJson, Some (plain (Bad NotJson)))
      ∷ (word.NotRequest, Some (plain (Bad NotRequest))) ∷ (word.UnknownCommand, Some (plain (Bad UnknownCommand)))
      ∷ (word.BadField, bad_field) ∷ (word.Ahead, Some (plain Ahead))
      ∷ (word.UnknownProcess, Some (plain (Refused refusal.UnknownProcess)))
      ∷ (word.UnknownSession, Some (plain (Refused refusal.UnknownSession)))
      ∷ (word.UnknownReview, Some (plain (Refused refusal.UnknownReview))) ∷ (word.UnknownName, unknown_name)
      ∷ (word.Denied, denial) ∷ (word.BadKinds, Some (plain (Refused refusal.BadKinds)))
      ∷ (word.NameTaken, Some (plain (Refused refusal.NameTaken))) ∷ (word.Already, Some (plain (Refused refusal.Already)))
      ∷ (word.Absent, Some (plain (Refused refusal.Absent))) ∷ (word.Cycle, Some (plain (Refused refusal.Cycle)))
      ∷ (word.Occupied, Some (plain (Refused refusal.Occupied))) ∷ (word.InUse, Some (plain (Refused refusal.InUse)))
      ∷ (word.LastContainer, Some (plain (Refused refusal.LastContainer)))
      ∷ (word.Builtin, Some (plain (Refused refusal.Builtin))) ∷ (word.EmptyRange, Some (plain (Refused refusal.EmptyRange)))
      ∷ (word.Full, full) ∷ (word.ResponseRefused, response) ∷ (word.KeepFault, Some (plain KeepFault)) ∷ []

  -- by the word at `no`, or else at `ok`
  abbrev pub shown_from : Option (List ℕ) → Option Shown
  shown_from None = option_and_then (λ what. what) (option_and_then (beside ok_words) (text_at key.Ok))
  shown_from (Some w) = option_and_then (λ what. what) (beside no_words w)

  abbrev pub said : Option Said
  said =
      option_and_then (λ what. option_map (λ version. record { id = number_at key.Id; version = version; shown = what })
      (number_at key.V)) (shown_from (text_at key.No))
