-- What one caller gets for its bytes, told by the history that its requests make: each answer is that of the replay of
-- the entries so far. The project's own.
use Rattle.std.specs.Prelude.{ℕ, ◌+◌, List, [], ◌∷◌, ◌++◌, length, Option, None, Some}
use Rattle.pm_model.specs.State.{State, name_numbered}
use Rattle.pm_model.specs.Answer.{answer}
use Rattle.pm_model.specs.History.{replay}
use Rattle.pm_model.specs.Text.{text}
use Rattle.pm_model.specs.Lines.{Event, events}
use Rattle.pm_model.specs.Solo.{asked_at, answer_what}
use Rattle.pm_model.specs.declared.requests.Request.{Request}
use Rattle.pm_model.specs.declared.requests.Entry.{Entry}
use Rattle.pm_model.specs.declared.requests.What.{What}
use Rattle.pm_model.specs.declared.requests.What.TheVariants as what
use Rattle.pm_model.specs.declared.replies.Reply.{Reply}

-- the request as the next entry of the only caller, whose seat is 0
abbrev pub next_entry : List Entry → Request → Entry
next_entry entries request = record { seat = 0; nth = length entries + 1; request = request }

-- the entries that an answer adds: this one where the request is accepted, else none
abbrev pub entries_of : Option State → Entry → List Entry
entries_of None entry = []
entries_of (Some S) entry = entry ∷ []

-- the history once this is answered
abbrev pub recorded : List Entry → What → List Entry
recorded entries (what.Request request) = entries ++ entries_of (answer (replay entries) request).next (next_entry entries request)
recorded entries (what.Bad bad) = entries

-- a reply's line, with the version and the names after this history
abbrev pub line_after : Option ℕ → List Entry → Reply → List ℕ
line_after id entries reply = text id (length entries) (name_numbered (replay entries).graph.elements) reply

abbrev pub recorded_reply : List Entry → Event → List ℕ
recorded_reply entries e =
    line_after (asked_at e).id (recorded entries (asked_at e).what) (answer_what (replay entries) (asked_at e).what).reply

-- the replies to these lines, after this history
abbrev pub recorded_replies : List Entry → List Event → List ℕ
recorded_replies entries [] = []
recorded_replies entries (e ∷ es) = recorded_reply entries e ++ recorded_replies (recorded entries (asked_at e).what) es

-- the history after these lines
abbrev pub history_after : List Entry → List Event → List Entry
history_after entries [] = entries
history_after entries (e ∷ es) = history_after (recorded entries (asked_at e).what) es

abbrev pub recorded_solo : List ℕ → List ℕ
recorded_solo bytes = recorded_replies [] (events bytes)
