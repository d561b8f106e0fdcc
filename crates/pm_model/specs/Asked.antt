-- What a line asks, by a look-up of its members. JSON itself is serde_json's word `read`; the forms and their order are
-- the project's own.
use Rattle.std.specs.Prelude.{ℕ, List, if◌then◌else◌, bytes_eq, Option, None, Some, option_and_then, Result, Ok, Err}
use Rattle.std.specs.Str.{is_utf8}
use Rattle.serde_json.specs.Data.{Data}
use Rattle.serde_json.specs.Read.{read}
use Rattle.serde_json.specs.Find.{as_str}
use Rattle.pm_model.specs.Forms.{name_form, whole_form, short_form, rights_form, listed_form, kind_form, list_form, if_few_beside, mode_form, subject_form, looking}
use Rattle.pm_model.specs.ResponseForms.{do_form, when_form}
use Rattle.pm_model.specs.declared.actions.Action.{Action}
use Rattle.pm_model.specs.declared.events.When.{When}
use Rattle.pm_model.specs.Results.{and_then}
use Rattle.pm_model.specs.Words.{key_text, word_text}
use Rattle.pm_model.specs.declared.words.Key.{Key}
use Rattle.pm_model.specs.declared.words.Key.TheVariants as key
use Rattle.pm_model.specs.declared.words.Word.TheVariants as word
use Rattle.pm_model.specs.declared.lines.BadLine.{BadLine}
use Rattle.pm_model.specs.declared.lines.BadLine.TheVariants.{NotJson, NotRequest, UnknownCommand, BadField}
use Rattle.pm_model.specs.declared.elements.Kind.{Kind}
use Rattle.pm_model.specs.declared.elements.Kind.TheVariants.{User, Ua, Object, Oa}
use Rattle.pm_model.specs.declared.requests.Command.{Command}
use Rattle.pm_model.specs.declared.requests.Command.TheVariants as command
use Rattle.pm_model.specs.declared.prohibitions.Mode.{Mode}
use Rattle.pm_model.specs.declared.prohibitions.Subject.{Subject}
use Rattle.pm_model.specs.declared.reviews.ReviewOf.{ReviewOf}
use Rattle.pm_model.specs.declared.requests.Question.{Question}
use Rattle.pm_model.specs.declared.requests.Question.TheVariants as question
use Rattle.pm_model.specs.declared.requests.Body.{Body}
use Rattle.pm_model.specs.declared.requests.Body.TheVariants as body
use Rattle.pm_model.specs.declared.requests.Request.{Request}
use Rattle.pm_model.specs.declared.requests.What.{What}
use Rattle.pm_model.specs.declared.requests.What.TheVariants as what
use Rattle.pm_model.specs.declared.requests.Asked.{Asked}

-- ---- fields

abbrev pub required : {A : Type 0} → Key → Option A → Result A BadLine
required k None = Err (BadField k)
required k (Some a) = Ok a

-- the member is absent, or has the form
abbrev pub optional : {A : Type 0} → Key → Option Data → (Data → Option A) → Result (Option A) BadLine
optional f None form = Ok None
optional f (Some d) form = and_then (required f (form d)) (λ a. Ok (Some a))

-- ---- lines, by what stands at each key of the line's object

module _ (look : List ℕ → Option Data) where
  abbrev pub name_at : Key → Result (List ℕ) BadLine
  name_at k = required k (option_and_then name_form (look (key_text k)))

  abbrev pub number_at : Key → Result ℕ BadLine
  number_at k = required k (option_and_then short_form (look (key_text k)))

  abbrev pub process_of : Result ℕ BadLine
  process_of = number_at key.Proc

  abbrev pub open_session_of : Result Body BadLine
  open_session_of = and_then (name_at key.User) (λ user. Ok (body.OpenSession user))

  abbrev pub close_session_of : Result Body BadLine
  close_session_of = and_then (number_at key.Session) (λ session. Ok (body.CloseSession session))

  abbrev pub start_process_of : Result Body BadLine
  start_process_of = and_then (number_at key.Session) (λ session. Ok (body.StartProcess session))

  abbrev pub end_process_of : Result Body BadLine
  end_process_of = and_then (number_at key.Process) (λ process. Ok (body.EndProcess process))

  abbrev pub create_pc_of : Result Command BadLine
  create_pc_of = and_then (name_at key.Name) (λ name. Ok (command.CreatePc name))

  abbrev pub create_of : Kind → Result Command BadLine
  create_of kind =
      and_then (name_at key.Name) (λ name.
      and_then (name_at key.Into) (λ into. Ok (command.Create kind name into)))

  abbrev pub delete_of : Result Command BadLine
  delete_of = and_then (name_at key.Name) (λ name. Ok (command.Delete name))

  -- the fields `from` and `to`
  abbrev pub ends_of : Result (List ℕ × List ℕ) BadLine
  ends_of =
      and_then (name_at key.From) (λ from.
      and_then (name_at key.To) (λ to. Ok (from, to)))

  abbrev pub assign_of : Result Command BadLine
  assign_of = and_then ends_of (λ ends. Ok (command.Assign ends.0 ends.1))

  abbrev pub deassign_of : Result Command BadLine
  deassign_of = and_then ends_of (λ ends. Ok (command.Deassign ends.0 ends.1))

  -- the set of rights
  abbrev pub rights_at : Result (List (List ℕ)) BadLine
  rights_at = required key.Rights (option_and_then rights_form (look (key_text key.Rights)))

  abbrev pub associate_of : Result Command BadLine
  associate_of =
      and_then (name_at key.Ua) (λ ua.
      and_then rights_at (λ rights.
      and_then (name_at key.At) (λ at. Ok (command.Associate ua rights at))))

  abbrev pub dissociate_of : Result Command BadLine
  dissociate_of =
      and_then (name_at key.Ua) (λ ua.
      and_then (name_at key.At) (λ at. Ok (command.Dissociate ua at)))

  abbrev pub subject_at : Result (Subject (List ℕ) ℕ) BadLine
  subject_at = required key.Subject (option_and_then subject_form (look (key_text key.Subject)))

  abbrev pub mode_at : Result Mode BadLine
  mode_at = required key.Mode (option_and_then mode_form (look (key_text key.Mode)))

  abbrev pub inc_at : Result (List (List ℕ)) BadLine
  inc_at = required key.Inc (option_and_then list_form (look (key_text key.Inc)))

  abbrev pub exc_at : List (List ℕ) → Result (List (List ℕ)) BadLine
  exc_at inc = required key.Exc (option_and_then (if_few_beside inc) (option_and_then list_form (look (key_text key.Exc))))

  -- the fields `inc` and `exc`
  abbrev pub sets_of : Result (List (List ℕ) × List (List ℕ)) BadLine
  sets_of = and_then inc_at (λ inc. and_then (exc_at inc) (λ exc. Ok (inc, exc)))

  abbrev pub prohibit_of : Result Command BadLine
  prohibit_of =
      and_then (name_at key.Name) (λ name.
      and_then subject_at (λ subject.
      and_then rights_at (λ rights.
      and_then sets_of (λ sets.
      and_then mode_at (λ mode. Ok (command.Prohibit name subject rights sets.0 sets.1 mode))))))

  abbrev pub lift_of : Result Command BadLine
  lift_of = and_then (name_at key.Name) (λ name. Ok (command.Lift name))

  abbrev pub define_right_of : Result Command BadLine
  define_right_of = and_then (name_at key.Name) (λ name. Ok (command.DefineRight name))

  -- the fields `when` and `do`
  abbrev pub when_at : Result When BadLine
  when_at = required key.When (option_and_then when_form (look (key_text key.When)))

  abbrev pub do_at : Result (List Action) BadLine
  do_at = required key.Do (option_and_then do_form (look (key_text key.Do)))

  abbrev pub oblige_of : Result Command BadLine
  oblige_of =
      and_then (name_at key.Name) (λ name.
      and_then when_at (λ when.
      and_then do_at (λ response. Ok (command.Oblige name when response))))

  abbrev pub withdraw_of : Result Command BadLine
  withdraw_of = and_then (name_at key.Name) (λ name. Ok (command.Withdraw name))

  abbrev pub kind_at : Result (List ℕ → ReviewOf (List ℕ)) BadLine
  kind_at = required key.Kind (option_and_then kind_form (look (key_text key.Kind)))

  abbrev pub keep_of : Result Command BadLine
  keep_of = and_then kind_at (λ kind. and_then (name_at key.Of) (λ name. Ok (command.Keep (kind name))))

  abbrev pub drop_review_of : Result Command BadLine
  drop_review_of = and_then (number_at key.Review) (λ review. Ok (command.DropReview review))

  abbrev pub access_of : Result Body BadLine
  access_of =
      and_then process_of (λ process.
      and_then (name_at key.Right) (λ right.
      and_then (name_at key.Target) (λ target. Ok (body.Access process right target))))

  abbrev pub admin_of : Result Command BadLine → Result Body BadLine
  admin_of command = and_then process_of (λ process. and_then command (λ c. Ok (body.Admin process c)))

  abbrev pub caps_of : Result Question BadLine
  caps_of = and_then (name_at key.User) (λ user. Ok (question.Caps user))

  abbrev pub entries_of : Result Question BadLine
  entries_of = and_then (name_at key.Element) (λ element. Ok (question.Entries element))

  -- a list of 1 to 32 names, as it stands
  abbrev pub users_at : Result (List (List ℕ)) BadLine
  users_at = required key.Users (option_and_then listed_form (look (key_text key.Users)))

  abbrev pub survey_of : Result Question BadLine
  survey_of = and_then users_at (λ users. Ok (question.Survey users))

  abbrev pub kept_of : Result Question BadLine
  kept_of = and_then (number_at key.Review) (λ review. Ok (question.Kept review))

  abbrev pub changes_of : Result Question BadLine
  changes_of = and_then (number_at key.Review) (λ review. Ok (question.Changes review))

  abbrev pub review_of : Result Question BadLine → Result Body BadLine
  review_of asks = and_then process_of (λ process. and_then asks (λ q. Ok (body.Review process q)))

  -- the row of the word, where it is a command's
  abbrev pub row_of : List ℕ → Option (Result Body BadLine)
  row_of w =
      if bytes_eq w (word_text word.Version) then Some (Ok body.Version)
      else (if bytes_eq w (word_text word.OpenSession) then Some open_session_of
      else (if bytes_eq w (word_text word.CloseSession) then Some close_session_of
      else (if bytes_eq w (word_text word.StartProcess) then Some start_process_of
      else (if bytes_eq w (word_text word.EndProcess) then Some end_process_of
      else (if bytes_eq w (word_text word.CreatePc) then Some (admin_of create_pc_of)
      else (if bytes_eq w (word_text word.CreateUser) then Some (admin_of (create_of User))
      else (if bytes_eq w (word_text word.CreateUa) then Some (admin_of (create_of Ua))
      else (if bytes_eq w (word_text word.CreateOa) then Some (admin_of (create_of Oa))
      else (if bytes_eq w (word_text word.CreateObject) then Some (admin_of (create_of Object))
      else (if bytes_eq w (word_text word.Delete) then Some (admin_of delete_of)
      else (if bytes_eq w (word_text word.Assign) then Some (admin_of assign_of)
      else (if bytes_eq w (word_text word.Deassign) then Some (admin_of deassign_of)
      else (if bytes_eq w (word_text word.Associate) then Some (admin_of associate_of)
      else (if bytes_eq w (word_text word.Dissociate) then Some (admin_of dissociate_of)
      else (if bytes_eq w (word_text word.Prohibit) then Some (admin_of prohibit_of)
      else (if bytes_eq w (word_text word.Lift) then Some (admin_of lift_of)
      else (if bytes_eq w (word_text word.DefineRight) then Some (admin_of define_right_of)
      else (if bytes_eq w (word_text word.Oblige) then Some (admin_of oblige_of)
      else (if bytes_eq w (word_text word.Withdraw) then Some (admin_of withdraw_of)
      else (if bytes_eq w (word_text word.Keep) then Some (admin_of keep_of)
      else (if bytes_eq w (word_text word.DropReview) then Some (admin_of drop_review_of)
      else (if bytes_eq w (word_text word.Access) then Some access_of
      else (if bytes_eq w (word_text word.Caps) then Some (review_of caps_of)
      else (if bytes_eq w (word_text word.Entries) then Some (review_of entries_of)
      else (if bytes_eq w (word_text word.Survey) then Some (review_of survey_of)
      else (if bytes_eq w (word_text word.Kept) then Some (review_of kept_of)
      else (if bytes_eq w (word_text word.Changes) then Some (review_of changes_of)
      else None)))))))))))))))))))))))))))

  -- `id`, `after`, then the fields of the row
  abbrev pub with_head : Result Body BadLine → Result Request BadLine
  with_head row =
      and_then (optional key.Id (look (key_text key.Id)) whole_form) (λ id.
      and_then (optional key.After (look (key_text key.After)) whole_form) (λ after.
      and_then row (λ body. Ok (record { after = after; body = body }))))

  abbrev pub rowed : Option (Result Body BadLine) → Result Request BadLine
  rowed None = Err UnknownCommand
  rowed (Some row) = with_head row

  abbrev pub worded : Option (List ℕ) → Result Request BadLine
  worded None = Err NotRequest
  worded (Some w) = rowed (row_of w)

  abbrev pub request_of : Result Request BadLine
  request_of = worded (option_and_then as_str (look (key_text key.Cmd)))

  abbrev pub id_of : Option ℕ
  id_of = option_and_then whole_form (look (key_text key.Id))

abbrev pub what_of : Result Request BadLine → What
what_of (Ok request) = what.Request request
what_of (Err bad) = what.Bad bad

abbrev pub asked_by : (List ℕ → Option Data) → Asked
asked_by look = record { id = id_of look; what = what_of (request_of look) }

abbrev pub asked_of : Option Data → Asked
asked_of None = record { id = None; what = what.Bad NotJson }
asked_of (Some d) = asked_by (looking d)

abbrev pub asked : List ℕ → Asked
asked line = asked_of (if is_utf8 line then read line else None)
