-- What one caller gets for its bytes. The project's own.
use Rattle.std.specs.Prelude.{ℕ, List, [], ◌∷◌, ◌++◌, Option, None}
use Rattle.pm_model.specs.State.{State, opening, name_numbered}
use Rattle.pm_model.specs.Answer.{Answer, answer, after, told}
use Rattle.pm_model.specs.Asked.{asked}
use Rattle.pm_model.specs.Text.{text}
use Rattle.pm_model.specs.Lines.{Event, whole, too_long, events}
use Rattle.pm_model.specs.declared.lines.BadLine.TheVariants.{TooLong}
use Rattle.pm_model.specs.declared.requests.Asked.{Asked}
use Rattle.pm_model.specs.declared.requests.What.{What}
use Rattle.pm_model.specs.declared.requests.What.TheVariants as what
use Rattle.pm_model.specs.declared.replies.Reply.TheVariants.{Bad}

abbrev pub asked_at : Event → Asked
asked_at (whole line) = asked line
asked_at too_long = record { id = None; what = what.Bad TooLong }

abbrev pub answer_what : State → What → Answer
answer_what S (what.Request request) = answer S request
answer_what S (what.Bad bad) = told (Bad bad)

-- the line of an answer, at the version after it and with the names of the state then
abbrev pub line_told : Option ℕ → State → Answer → List ℕ
line_told id S a = text id (after S a).version (name_numbered (after S a).graph.elements) a.reply

abbrev pub reply_to : State → Event → List ℕ
reply_to S e = line_told (asked_at e).id S (answer_what S (asked_at e).what)

abbrev pub state_after : State → Event → State
state_after S e = after S (answer_what S (asked_at e).what)

-- the replies to these lines, from this state on
abbrev pub replies : State → List Event → List ℕ
replies S [] = []
replies S (e ∷ es) = reply_to S e ++ replies (state_after S e) es

abbrev pub solo : List ℕ → List ℕ
solo bytes = replies opening (events bytes)
