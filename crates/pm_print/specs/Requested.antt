-- The line of a request: an object with these members, a row for each command. The project's own.
use Rattle.std.specs.Prelude.{ℕ, List, [], ◌∷◌, ◌++◌, Option, None, Some}
use Rattle.serde_json.specs.Data.{Data}
use Rattle.pm_model.specs.Events.{word_to_create}
use Rattle.pm_model.specs.Object.{line_of, whole, whole_if, texted}
use Rattle.pm_model.specs.Text.{said}
use Rattle.pm_model.specs.Words.{key_text}
use Rattle.pm_model.specs.declared.words.Key.TheVariants as key
use Rattle.pm_model.specs.declared.words.Word.{Word}
use Rattle.pm_model.specs.declared.words.Word.TheVariants as word
use Rattle.pm_model.specs.declared.events.When.{When}
use Rattle.pm_model.specs.declared.prohibitions.Mode.{Mode}
use Rattle.pm_model.specs.declared.prohibitions.Subject.{Subject}
use Rattle.pm_model.specs.declared.requests.Body.{Body}
use Rattle.pm_model.specs.declared.requests.Body.TheVariants as body
use Rattle.pm_model.specs.declared.requests.Command.{Command}
use Rattle.pm_model.specs.declared.requests.Command.TheVariants as command
use Rattle.pm_model.specs.declared.requests.Question.{Question}
use Rattle.pm_model.specs.declared.requests.Question.TheVariants as question
use Rattle.pm_model.specs.declared.requests.Request.{Request}
use Rattle.pm_model.specs.declared.reviews.ReviewOf.TheVariants as of
use Rattle.pm_print.specs.Actions.{actions_told, mode_word, names_told, subject_told, when_told}

-- ---- words

abbrev pub command_word : Command → Word
command_word (command.CreatePc name) = word.CreatePc
command_word (command.Create kind name into) = word_to_create kind
command_word (command.Delete name) = word.Delete
command_word (command.Assign from to) = word.Assign
command_word (command.Deassign from to) = word.Deassign
command_word (command.Associate ua rights at) = word.Associate
command_word (command.Dissociate ua at) = word.Dissociate
command_word (command.Prohibit name subject rights inc exc mode) = word.Prohibit
command_word (command.Lift name) = word.Lift
command_word (command.DefineRight name) = word.DefineRight
command_word (command.Oblige name when response) = word.Oblige
command_word (command.Withdraw name) = word.Withdraw
command_word (command.Keep review) = word.Keep
command_word (command.DropReview review) = word.DropReview

abbrev pub question_word : Question → Word
question_word (question.Caps user) = word.Caps
question_word (question.Entries element) = word.Entries
question_word (question.Survey users) = word.Survey
question_word (question.Kept review) = word.Kept
question_word (question.Changes review) = word.Changes

abbrev pub body_word : Body → Word
body_word body.Version = word.Version
body_word (body.OpenSession user) = word.OpenSession
body_word (body.CloseSession session) = word.CloseSession
body_word (body.StartProcess session) = word.StartProcess
body_word (body.EndProcess process) = word.EndProcess
body_word (body.Access process right target) = word.Access
body_word (body.Admin process c) = command_word c
body_word (body.Review process q) = question_word q

-- ---- the members before `cmd`

abbrev pub command_at : Command → Option Data
command_at (command.Associate ua rights at) = texted at
command_at (command.Dissociate ua at) = texted at
command_at _ = None

abbrev pub body_at : Body → Option Data
body_at (body.Admin process c) = command_at c
body_at _ = None

abbrev pub body_front : Option ℕ → Body → List (List ℕ × Option Data)
body_front after b = (key_text key.After, whole_if after) ∷ (key_text key.At, body_at b) ∷ []

-- ---- the members behind `cmd`

abbrev pub session_back : Option ℕ → ℕ → List (List ℕ × Option Data)
session_back id session = (key_text key.Id, whole_if id) ∷ (key_text key.Session, whole session) ∷ []

abbrev pub named_back : Option ℕ → ℕ → List ℕ → List (List ℕ × Option Data)
named_back id process name = (key_text key.Id, whole_if id) ∷ (key_text key.Name, texted name) ∷ (key_text key.Proc, whole process) ∷ []

abbrev pub ends_back : Option ℕ → ℕ → List ℕ → List ℕ → List (List ℕ × Option Data)
ends_back id process from to =
    (key_text key.From, texted from) ∷ (key_text key.Id, whole_if id) ∷ (key_text key.Proc, whole process) ∷ (key_text key.To, texted to) ∷ []

abbrev pub sets_back : Option ℕ → List (List ℕ) → List (List ℕ) → Mode → List (List ℕ × Option Data)
sets_back id inc exc mode =
    (key_text key.Exc, names_told exc) ∷ (key_text key.Id, whole_if id) ∷ (key_text key.Inc, names_told inc) ∷ (key_text key.Mode, said (mode_word mode)) ∷ []

abbrev pub barred_back : ℕ → List ℕ → List (List ℕ) → Subject (List ℕ) ℕ → List (List ℕ × Option Data)
barred_back process name rights subject =
    (key_text key.Name, texted name) ∷ (key_text key.Proc, whole process) ∷ (key_text key.Rights, names_told rights)
    ∷ (key_text key.Subject, Some (subject_told subject)) ∷ []

abbrev pub awaited_back : ℕ → List ℕ → When → List (List ℕ × Option Data)
awaited_back process name when =
    (key_text key.Name, texted name) ∷ (key_text key.Proc, whole process) ∷ (key_text key.When, Some (when_told when)) ∷ []

abbrev pub keep_back : Option ℕ → ℕ → Word → List ℕ → List (List ℕ × Option Data)
keep_back id process kind name =
    (key_text key.Id, whole_if id) ∷ (key_text key.Kind, said kind) ∷ (key_text key.Of, texted name) ∷ (key_text key.Proc, whole process) ∷ []

abbrev pub review_back : Option ℕ → ℕ → ℕ → List (List ℕ × Option Data)
review_back id process review = (key_text key.Id, whole_if id) ∷ (key_text key.Proc, whole process) ∷ (key_text key.Review, whole review) ∷ []

abbrev pub command_back : Option ℕ → ℕ → Command → List (List ℕ × Option Data)
command_back id process (command.CreatePc name) = named_back id process name
command_back id process (command.Create kind name into) =
    (key_text key.Id, whole_if id) ∷ (key_text key.Into, texted into) ∷ (key_text key.Name, texted name) ∷ (key_text key.Proc, whole process) ∷ []
command_back id process (command.Delete name) = named_back id process name
command_back id process (command.Assign from to) = ends_back id process from to
command_back id process (command.Deassign from to) = ends_back id process from to
command_back id process (command.Associate ua rights at) =
    (key_text key.Id, whole_if id) ∷ (key_text key.Proc, whole process) ∷ (key_text key.Rights, names_told rights) ∷ (key_text key.Ua, texted ua) ∷ []
command_back id process (command.Dissociate ua at) =
    (key_text key.Id, whole_if id) ∷ (key_text key.Proc, whole process) ∷ (key_text key.Ua, texted ua) ∷ []
command_back id process (command.Prohibit name subject rights inc exc mode) = sets_back id inc exc mode ++ barred_back process name rights subject
command_back id process (command.Lift name) = named_back id process name
command_back id process (command.DefineRight name) = named_back id process name
command_back id process (command.Oblige name when response) =
    (key_text key.Do, actions_told response) ∷ (key_text key.Id, whole_if id) ∷ awaited_back process name when
command_back id process (command.Withdraw name) = named_back id process name
command_back id process (command.Keep (of.Caps name)) = keep_back id process word.Caps name
command_back id process (command.Keep (of.Entries name)) = keep_back id process word.Entries name
command_back id process (command.DropReview review) = review_back id process review

abbrev pub question_back : Option ℕ → ℕ → Question → List (List ℕ × Option Data)
question_back id process (question.Caps user) =
    (key_text key.Id, whole_if id) ∷ (key_text key.Proc, whole process) ∷ (key_text key.User, texted user) ∷ []
question_back id process (question.Entries element) =
    (key_text key.Element, texted element) ∷ (key_text key.Id, whole_if id) ∷ (key_text key.Proc, whole process) ∷ []
question_back id process (question.Survey users) =
    (key_text key.Id, whole_if id) ∷ (key_text key.Proc, whole process) ∷ (key_text key.Users, names_told users) ∷ []
question_back id process (question.Kept review) = review_back id process review
question_back id process (question.Changes review) = review_back id process review

abbrev pub body_back : Option ℕ → Body → List (List ℕ × Option Data)
body_back id body.Version = (key_text key.Id, whole_if id) ∷ []
body_back id (body.OpenSession user) = (key_text key.Id, whole_if id) ∷ (key_text key.User, texted user) ∷ []
body_back id (body.CloseSession session) = session_back id session
body_back id (body.StartProcess session) = session_back id session
body_back id (body.EndProcess process) = (key_text key.Id, whole_if id) ∷ (key_text key.Process, whole process) ∷ []
body_back id (body.Access process right target) =
    (key_text key.Id, whole_if id) ∷ (key_text key.Proc, whole process) ∷ (key_text key.Right, texted right) ∷ (key_text key.Target, texted target) ∷ []
body_back id (body.Admin process c) = command_back id process c
body_back id (body.Review process q) = question_back id process q

-- ---- the line

-- all members, in alphabetical order
abbrev pub request_fields : Option ℕ → Request → List (List ℕ × Option Data)
request_fields id request = body_front request.after request.body ++ (key_text key.Cmd, said (body_word request.body)) ∷ body_back id request.body

-- the line of a request that has this id, or none, with its line feed
abbrev pub request_text : Option ℕ → Request → List ℕ
request_text id request = line_of (request_fields id request)
