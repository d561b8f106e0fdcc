-- The line of a reply: an object with these members, a row for each reply. The project's own.
use Rattle.std.specs.Prelude.{ℕ, List, [], ◌∷◌, ◌++◌, ◌==◌, false, if◌then◌else◌, map, Option, None, Some}
use Rattle.std.specs.Fmt.{digits}
use Rattle.std.specs.List.{zip}
use Rattle.serde_json.specs.Data.{Data, number, unsigned, string}
use Rattle.pm_model.specs.Object.{line_of, listed, whole, whole_if, texted}
use Rattle.pm_model.specs.Words.{key_text, word_text}
use Rattle.pm_model.specs.declared.words.Key.TheVariants as key
use Rattle.pm_model.specs.declared.words.Word.{Word}
use Rattle.pm_model.specs.declared.words.Word.TheVariants as word
use Rattle.pm_model.specs.declared.lines.Head.{Head}
use Rattle.pm_model.specs.declared.lines.BadLine.{BadLine}
use Rattle.pm_model.specs.declared.lines.BadLine.TheVariants.{TooLong, NotJson, NotRequest, UnknownCommand, BadField}
use Rattle.pm_model.specs.declared.replies.Refusal.{Refusal}
use Rattle.pm_model.specs.declared.replies.Refusal.TheVariants as refusal
use Rattle.pm_model.specs.declared.replies.Table.{Table}
use Rattle.pm_model.specs.declared.replies.Table.TheVariants.{Elements, Assignments, Associations, Prohibitions, Obligations, Sessions, Processes, Reviews, Rights, History}
use Rattle.pm_model.specs.declared.replies.Reply.{Reply}
use Rattle.pm_model.specs.declared.replies.Reply.TheVariants.{Done, Granted, Caps, Entries, Survey, Kept, Changes, Bad, Ahead, Refused, ResponseRefused, KeepFault}
use Rattle.pm_model.specs.declared.replies.Reason.{Reason}
use Rattle.pm_model.specs.declared.replies.Reason.TheVariants.{Class, Prohibition}
use Rattle.pm_model.specs.declared.reviews.Changed.{Changed}
use Rattle.pm_model.specs.declared.reviews.Pair.{Pair}
use Rattle.pm_model.specs.declared.replies.Shown.{Shown}
use Rattle.pm_model.specs.declared.replies.Shown.TheVariants as shown

abbrev pub table_word : Table → Word
table_word Elements = word.Elements
table_word Assignments = word.Assignments
table_word Associations = word.Associations
table_word Prohibitions = word.Prohibitions
table_word Obligations = word.Obligations
table_word Sessions = word.Sessions
table_word Processes = word.Processes
table_word Reviews = word.Reviews
table_word Rights = word.Rights
table_word History = word.History

-- a fixed text
abbrev pub said : Word → Option Data
said w = texted (word_text w)

-- a refusal that says no more than its word
abbrev pub no_front : Head → Word → List (List ℕ × Option Data)
no_front h why = (key_text key.Id, whole_if h.id) ∷ (key_text key.No, said why) ∷ []

abbrev pub bad_front : Head → BadLine → List (List ℕ × Option Data)
bad_front h TooLong = no_front h word.TooLong
bad_front h NotJson = no_front h word.NotJson
bad_front h NotRequest = no_front h word.NotRequest
bad_front h UnknownCommand = no_front h word.UnknownCommand
bad_front h (BadField k) = (key_text key.Field, texted (key_text k)) ∷ no_front h word.BadField

-- how many obligations responded, where some did
abbrev pub fired_if : ℕ → Option ℕ
fired_if n = if n == 0 then None else Some n

abbrev pub granted_front : Head → ℕ → List (List ℕ × Option Data)
granted_front h fired = (key_text key.Fired, whole_if (fired_if fired)) ∷ (key_text key.Id, whole_if h.id) ∷ (key_text key.Ok, said word.Granted) ∷ []

abbrev pub process_shown : Shown → Option ℕ
process_shown (shown.Process n) = Some n
process_shown _ = None

abbrev pub session_shown : Shown → Option ℕ
session_shown (shown.Session n) = Some n
session_shown _ = None

abbrev pub review_shown : Shown → Option ℕ
review_shown (shown.Review n) = Some n
review_shown _ = None

-- what a request that is accepted has made
abbrev pub made_front : Shown → List (List ℕ × Option Data)
made_front made =
    (key_text key.Process, whole_if (process_shown made)) ∷ (key_text key.Review, whole_if (review_shown made))
    ∷ (key_text key.Session, whole_if (session_shown made)) ∷ []

-- a request that is accepted
abbrev pub done_front : Head → ℕ → Shown → List (List ℕ × Option Data)
done_front h fired made =
    (key_text key.Fired, whole_if (fired_if fired)) ∷ (key_text key.Id, whole_if h.id) ∷ (key_text key.Ok, said word.Done) ∷ made_front made

abbrev pub unknown_front : Head → List ℕ → List (List ℕ × Option Data)
unknown_front h name = (key_text key.Id, whole_if h.id) ∷ (key_text key.Name, texted name) ∷ (key_text key.No, said word.UnknownName) ∷ []

abbrev pub full_front : Head → Table → List (List ℕ × Option Data)
full_front h table = (key_text key.Id, whole_if h.id) ∷ (key_text key.No, said word.Full) ∷ (key_text key.Table, said (table_word table)) ∷ []

-- the class of a denial, where it is one
abbrev pub class_of : (ℕ → List ℕ) → Reason → Option Data
class_of names (Class pc) = texted (names pc)
class_of names (Prohibition name) = None

-- the prohibition of a denial, where it is one
abbrev pub prohibition_of : Reason → Option Data
prohibition_of (Class pc) = None
prohibition_of (Prohibition name) = texted name

-- what is denied, behind the prohibition that denies it
abbrev pub capability_front : Reason → List ℕ → List ℕ → List (List ℕ × Option Data)
capability_front reason right target =
    (key_text key.Prohibition, prohibition_of reason) ∷ (key_text key.Right, texted right) ∷ (key_text key.Target, texted target) ∷ []

abbrev pub denied_front : Head → (ℕ → List ℕ) → List ℕ → ℕ → Reason → List (List ℕ × Option Data)
denied_front h names right target reason =
    (key_text key.Class, class_of names reason) ∷ (key_text key.Id, whole_if h.id) ∷ (key_text key.No, said word.Denied)
    ∷ capability_front reason right (names target)

abbrev pub refusal_front : Head → (ℕ → List ℕ) → Refusal → List (List ℕ × Option Data)
refusal_front h names refusal.UnknownProcess = no_front h word.UnknownProcess
refusal_front h names refusal.UnknownSession = no_front h word.UnknownSession
refusal_front h names refusal.UnknownReview = no_front h word.UnknownReview
refusal_front h names (refusal.UnknownName name) = unknown_front h name
refusal_front h names (refusal.Denied right target reason) = denied_front h names right target reason
refusal_front h names refusal.BadKinds = no_front h word.BadKinds
refusal_front h names refusal.NameTaken = no_front h word.NameTaken
refusal_front h names refusal.Already = no_front h word.Already
refusal_front h names refusal.Absent = no_front h word.Absent
refusal_front h names refusal.Cycle = no_front h word.Cycle
refusal_front h names refusal.Occupied = no_front h word.Occupied
refusal_front h names refusal.InUse = no_front h word.InUse
refusal_front h names refusal.LastContainer = no_front h word.LastContainer
refusal_front h names refusal.Builtin = no_front h word.Builtin
refusal_front h names refusal.EmptyRange = no_front h word.EmptyRange
refusal_front h names (refusal.Full table) = full_front h table

-- the word of a refusal
abbrev pub refusal_word : Refusal → Word
refusal_word refusal.UnknownProcess = word.UnknownProcess
refusal_word refusal.UnknownSession = word.UnknownSession
refusal_word refusal.UnknownReview = word.UnknownReview
refusal_word (refusal.UnknownName name) = word.UnknownName
refusal_word (refusal.Denied right target reason) = word.Denied
refusal_word refusal.BadKinds = word.BadKinds
refusal_word refusal.NameTaken = word.NameTaken
refusal_word refusal.Already = word.Already
refusal_word refusal.Absent = word.Absent
refusal_word refusal.Cycle = word.Cycle
refusal_word refusal.Occupied = word.Occupied
refusal_word refusal.InUse = word.InUse
refusal_word refusal.LastContainer = word.LastContainer
refusal_word refusal.Builtin = word.Builtin
refusal_word refusal.EmptyRange = word.EmptyRange
refusal_word (refusal.Full table) = word.Full

-- a response that is refused, of which the reason is told by its word
abbrev pub response_front : Head → List ℕ → ℕ → Refusal → List (List ℕ × Option Data)
response_front h obligation action why =
    (key_text key.Action, whole action) ∷ (key_text key.Id, whole_if h.id) ∷ (key_text key.No, said word.ResponseRefused)
    ∷ (key_text key.Obligation, texted obligation) ∷ []

-- a set of rights: its number in hexadecimal digits, the lower-case ones
abbrev pub rights_text : ℕ → List ℕ
rights_text rights = digits 16 false rights

-- a name and a set of rights
abbrev pub pair_told : (ℕ → List ℕ) → Pair → Data
pair_told names p = listed (string (names p.element) ∷ string (rights_text p.rights) ∷ [])

-- a name and a number
abbrev pub count_told : (ℕ → List ℕ) → (ℕ × ℕ) → Data
count_told names c = listed (string (names c.0) ∷ number (unsigned c.1) ∷ [])

-- a name, and two sets of rights
abbrev pub change_told : Changed → Data
change_told c = listed (string c.name ∷ string (rights_text c.old) ∷ string (rights_text c.new) ∷ [])

-- a review that tells who has rights on what
abbrev pub list_front : Head → (ℕ → List ℕ) → Word → List Pair → List (List ℕ × Option Data)
list_front h names what list =
    (key_text key.Id, whole_if h.id) ∷ (key_text key.List, Some (listed (map (pair_told names) list))) ∷ (key_text key.Ok, said what) ∷ []

-- one that tells how much each of several users may do
abbrev pub survey_front : Head → (ℕ → List ℕ) → List ℕ → List ℕ → List (List ℕ × Option Data)
survey_front h names users counts =
    (key_text key.Counts, Some (listed (map (count_told names) (zip users counts)))) ∷ (key_text key.Id, whole_if h.id)
    ∷ (key_text key.Ok, said word.Survey) ∷ []

-- the last change of a kept review
abbrev pub changes_front : Head → ℕ → List Changed → List (List ℕ × Option Data)
changes_front h at list =
    (key_text key.At, whole at) ∷ (key_text key.Id, whole_if h.id) ∷ (key_text key.List, Some (listed (map change_told list)))
    ∷ (key_text key.Ok, said word.Changes) ∷ []

-- the members before `v`, in alphabetical order
abbrev pub front : Head → (ℕ → List ℕ) → Reply → List (List ℕ × Option Data)
front h names (Done fired made) = done_front h fired made
front h names (Granted fired) = granted_front h fired
front h names (Caps list) = list_front h names word.Caps list
front h names (Entries list) = list_front h names word.Entries list
front h names (Survey users counts) = survey_front h names users counts
front h names (Kept list) = list_front h names word.Kept list
front h names (Changes at list) = changes_front h at list
front h names (Bad bad) = bad_front h bad
front h names Ahead = no_front h word.Ahead
front h names (Refused why) = refusal_front h names why
front h names (ResponseRefused obligation action why) = response_front h obligation action why
front h names KeepFault = no_front h word.KeepFault

-- the member behind the version: the word of the reason for which a response is refused
abbrev pub back : Reply → List (List ℕ × Option Data)
back (ResponseRefused obligation action why) = (key_text key.Why, said (refusal_word why)) ∷ []
back _ = []

abbrev pub with_version : ℕ → List (List ℕ × Option Data) → List (List ℕ × Option Data) → List (List ℕ × Option Data)
with_version v before behind = before ++ (key_text key.V, whole v) ∷ behind

-- the reply to a line with this id, at this version, where elements have these names
abbrev pub text : Option ℕ → ℕ → (ℕ → List ℕ) → Reply → List ℕ
text id v names reply = line_of (with_version v (front (record { id = id }) names reply) (back reply))

-- the reply to a bad form, whatever names elements have
abbrev pub bad_text : Option ℕ → ℕ → BadLine → List ℕ
bad_text id v bad = line_of (with_version v (bad_front (record { id = id }) bad) [])
