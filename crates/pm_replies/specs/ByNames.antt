-- A reply with names in place of the numbers of elements, and which lines are texts of replies.
use Rattle.std.specs.Prelude.{◌≡◌, ◌<◌, ◌^◌, ℕ, List, [], ◌∷◌, ◌++◌, codes, map, Option}
use Rattle.std.specs.List.{zip}
use Rattle.pm_model.specs.Formed.{Each}
use Rattle.pm_model.specs.Text.{text}
use Rattle.pm_model.specs.declared.replies.Reason.{Reason}
use Rattle.pm_model.specs.declared.replies.Reason.TheVariants as reason
use Rattle.pm_model.specs.declared.replies.Refusal.{Refusal}
use Rattle.pm_model.specs.declared.replies.Refusal.TheVariants as refusal
use Rattle.pm_model.specs.declared.replies.Reply.{Reply}
use Rattle.pm_model.specs.declared.replies.Reply.TheVariants as reply
use Rattle.pm_model.specs.declared.reviews.Pair.{Pair}
use Rattle.pm_print.specs.Printable.{IsPrintable, numbers_in_shown}
use Rattle.pm_replies.specs.declared.texts.ReasonText.{ReasonText}
use Rattle.pm_replies.specs.declared.texts.ReasonText.TheVariants.{Class, Prohibition}
use Rattle.pm_replies.specs.declared.texts.RefusalText.{RefusalText}
use Rattle.pm_replies.specs.declared.texts.RefusalText.TheVariants as text_of
use Rattle.pm_replies.specs.declared.texts.RefusalWord.{RefusalWord}
use Rattle.pm_replies.specs.declared.texts.RefusalWord.TheVariants as bare
use Rattle.pm_replies.specs.declared.texts.ReplyLine.{ReplyLine}
use Rattle.pm_replies.specs.declared.texts.ReplyText.{ReplyText}
use Rattle.pm_replies.specs.declared.texts.ReplyText.TheVariants.{Done, Granted, Caps, Entries, Survey, Kept, Changes, Bad, Ahead, Refused, ResponseRefused, KeepFault}
use Rattle.pm_replies.specs.declared.texts.TextPair.{TextPair}
use Rattle.pm_replies.specs.declared.texts.TextCount.{TextCount}

-- the refusal without its fields
abbrev pub without_fields : Refusal → RefusalWord
without_fields refusal.UnknownProcess = bare.UnknownProcess
without_fields refusal.UnknownSession = bare.UnknownSession
without_fields refusal.UnknownReview = bare.UnknownReview
without_fields (refusal.UnknownName name) = bare.UnknownName
without_fields (refusal.Denied right target why) = bare.Denied
without_fields refusal.BadKinds = bare.BadKinds
without_fields refusal.NameTaken = bare.NameTaken
without_fields refusal.Already = bare.Already
without_fields refusal.Absent = bare.Absent
without_fields refusal.Cycle = bare.Cycle
without_fields refusal.Occupied = bare.Occupied
without_fields refusal.InUse = bare.InUse
without_fields refusal.LastContainer = bare.LastContainer
without_fields refusal.Builtin = bare.Builtin
without_fields refusal.EmptyRange = bare.EmptyRange
without_fields (refusal.Full table) = bare.Full

-- where elements have these names
module _ (names : ℕ → List ℕ) where
  abbrev pub reason_by_names : Reason → ReasonText
  reason_by_names (reason.Class pc) = Class (names pc)
  reason_by_names (reason.Prohibition name) = Prohibition name

  abbrev pub refusal_by_names : Refusal → RefusalText
  refusal_by_names refusal.UnknownProcess = text_of.UnknownProcess
  refusal_by_names refusal.UnknownSession = text_of.UnknownSession
  refusal_by_names refusal.UnknownReview = text_of.UnknownReview
  refusal_by_names (refusal.UnknownName name) = text_of.UnknownName name
  refusal_by_names (refusal.Denied right target why) = text_of.Denied right (names target) (reason_by_names why)
  refusal_by_names refusal.BadKinds = text_of.BadKinds
  refusal_by_names refusal.NameTaken = text_of.NameTaken
  refusal_by_names refusal.Already = text_of.Already
  refusal_by_names refusal.Absent = text_of.Absent
  refusal_by_names refusal.Cycle = text_of.Cycle
  refusal_by_names refusal.Occupied = text_of.Occupied
  refusal_by_names refusal.InUse = text_of.InUse
  refusal_by_names refusal.LastContainer = text_of.LastContainer
  refusal_by_names refusal.Builtin = text_of.Builtin
  refusal_by_names refusal.EmptyRange = text_of.EmptyRange
  refusal_by_names (refusal.Full table) = text_of.Full table

  abbrev pub pair_by_name : Pair → TextPair
  pair_by_name p = record { name = names p.element; rights = p.rights }

  abbrev pub count_by_name : (ℕ × ℕ) → TextCount
  count_by_name c = record { name = names c.0; count = c.1 }

  -- the reply with names
  abbrev pub by_names : Reply → ReplyText
  by_names (reply.Done fired made) = Done fired made
  by_names (reply.Granted fired) = Granted fired
  by_names (reply.Caps list) = Caps (map pair_by_name list)
  by_names (reply.Entries list) = Entries (map pair_by_name list)
  by_names (reply.Survey users counts) = Survey (map count_by_name (zip users counts))
  by_names (reply.Kept list) = Kept (map pair_by_name list)
  by_names (reply.Changes at list) = Changes at list
  by_names (reply.Bad bad) = Bad bad
  by_names reply.Ahead = Ahead
  by_names (reply.Refused why) = Refused (refusal_by_names why)
  by_names (reply.ResponseRefused obligation action why) = ResponseRefused obligation action (without_fields why)
  by_names reply.KeepFault = KeepFault

-- the numbers that a reply holds in 32 bits
abbrev pub short_numbers : Reply → List ℕ
short_numbers (reply.Done fired made) = fired ∷ numbers_in_shown made
short_numbers (reply.Granted fired) = fired ∷ []
short_numbers (reply.ResponseRefused obligation action why) = action ∷ []
short_numbers _ = []

-- the numbers, the sets of rights and the names are such as the types of the code hold
pub record CanBeTold (id : Option ℕ) (version : ℕ) (names : ℕ → List ℕ) (told : Reply) : Type 0 where
  pub printable : IsPrintable id version names told
  pub short : Each (λ n. n < 2 ^ 32) (short_numbers told)

-- the line is what a reply's line is without its line feed, and this is what it says: the reply with the names that elements have
pub record IsTextOf (line : List ℕ) (said : ReplyLine) : Type 0 where
  pub names : ℕ → List ℕ
  pub told : Reply
  pub named : said.text ≡ by_names names told
  pub printed : text said.id said.version names told ≡ line ++ codes "\n"
