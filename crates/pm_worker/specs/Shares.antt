-- How much of a turn's share the lines take that are answered in it.
use Rattle.std.specs.Prelude.{ℕ, ◌+◌, List, [], ◌∷◌}
use Rattle.pm_model.specs.Lines.{event_of}
use Rattle.pm_model.specs.Solo.{asked_at}
use Rattle.pm_model.specs.declared.requests.Body.{Body}
use Rattle.pm_model.specs.declared.requests.Body.TheVariants as body
use Rattle.pm_model.specs.declared.requests.Question.{Question}
use Rattle.pm_model.specs.declared.requests.Question.TheVariants as question
use Rattle.pm_model.specs.declared.requests.What.{What}
use Rattle.pm_model.specs.declared.requests.What.TheVariants as what
use Rattle.pm_worker.specs.Told.{Told}

-- a survey takes as much as 64 other lines, since it may judge each element for each of its users
abbrev pub share_of_question : Question → ℕ
share_of_question (question.Survey users) = 64
share_of_question _ = 16

-- another review takes as much as 16, since it may judge each element or each user
abbrev pub share_of_body : Body → ℕ
share_of_body (body.Review process question) = share_of_question question
share_of_body _ = 1

abbrev pub share_of : What → ℕ
share_of (what.Request request) = share_of_body request.body
share_of (what.Bad form) = 1

-- what all of these lines take
abbrev pub share_taken : List Told → ℕ
share_taken [] = 0
share_taken (t ∷ ts) = share_of (asked_at (event_of t.line)).what + share_taken ts
