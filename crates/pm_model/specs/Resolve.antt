-- The names of a command or a question as numbers, in the order of its fields: the first name or number that is unknown is
-- told. The project's own. One clause for each command.
use Rattle.std.specs.Prelude.{ℕ, ◌+◌, ◌==◌, List, [], ◌∷◌, Option, None, Some, if◌then◌else◌, Result, Ok, Err}
use Rattle.std.specs.List.{list_any}
use Rattle.pm_model.specs.Results.{and_then}
use Rattle.pm_model.specs.State.{Graph, number_named}
use Rattle.pm_model.specs.declared.elements.Element.{Element}
use Rattle.pm_model.specs.declared.elements.Kind.TheVariants.{Pc}
use Rattle.pm_model.specs.declared.requests.Command.{Command}
use Rattle.pm_model.specs.declared.requests.Command.TheVariants as command
use Rattle.pm_model.specs.declared.requests.Change.{Change}
use Rattle.pm_model.specs.declared.requests.Change.TheVariants as change
use Rattle.pm_model.specs.declared.requests.Question.{Question}
use Rattle.pm_model.specs.declared.requests.Question.TheVariants as question
use Rattle.pm_model.specs.declared.requests.Review.{Review}
use Rattle.pm_model.specs.declared.requests.Review.TheVariants as review
use Rattle.pm_model.specs.RightSet.{bit_named, with_right}
use Rattle.pm_model.specs.Sessions.{is_process}
use Rattle.pm_model.specs.Operations.{is_operation}
use Rattle.pm_model.specs.Obligations as obliged
use Rattle.pm_model.specs.Prohibitions.{place_called}
use Rattle.pm_model.specs.KeptReviews.{KeptReview, kept_at}
use Rattle.pm_model.specs.declared.actions.Action.{Action}
use Rattle.pm_model.specs.declared.events.Pattern.{Pattern}
use Rattle.pm_model.specs.declared.events.When.{When}
use Rattle.pm_model.specs.declared.obligations.Obligation.{Obligation}
use Rattle.pm_model.specs.declared.prohibitions.Prohibition.{Prohibition}
use Rattle.pm_model.specs.declared.prohibitions.Mode.{Mode}
use Rattle.pm_model.specs.declared.prohibitions.Subject.{Subject}
use Rattle.pm_model.specs.declared.prohibitions.Subject.TheVariants.{User, Ua, Process}
use Rattle.pm_model.specs.declared.reviews.ReviewOf.{ReviewOf}
use Rattle.pm_model.specs.declared.reviews.ReviewOf.TheVariants as of
use Rattle.pm_model.specs.declared.replies.Refusal.{Refusal}
use Rattle.pm_model.specs.declared.replies.Refusal.TheVariants.{UnknownName, UnknownProcess, UnknownReview}

-- the least number from n on that no element of this rising list has
abbrev pub unused_from : ℕ → List Element → ℕ
unused_from n [] = n
unused_from n (e ∷ es) = if e.number == n then unused_from (n + 1) es else n

-- the number that the next new element takes
abbrev pub unused : List Element → ℕ
unused es = unused_from 0 es

abbrev pub known : List ℕ → Option ℕ → Result ℕ Refusal
known name (Some n) = Ok n
known name None = Err (UnknownName name)

abbrev pub look_up : Graph → List ℕ → Result ℕ Refusal
look_up G name = known name (number_named G.elements name)

-- two names, in the order of the fields
abbrev pub look_up_both : Graph → List ℕ → List ℕ → Result (ℕ × ℕ) Refusal
look_up_both G first second = and_then (look_up G first) (λ x. and_then (look_up G second) (λ y. Ok (x, y)))

-- a list of names, in its order
abbrev pub look_up_all : Graph → List (List ℕ) → Result (List ℕ) Refusal
look_up_all G [] = Ok []
look_up_all G (n ∷ ns) = and_then (look_up G n) (λ x. and_then (look_up_all G ns) (λ xs. Ok (x ∷ xs)))

-- the set of the rights of these names
abbrev pub look_up_rights : Graph → List (List ℕ) → Result ℕ Refusal
look_up_rights G [] = Ok 0
look_up_rights G (n ∷ ns) =
    and_then (known n (bit_named G.rights n)) (λ bit. and_then (look_up_rights G ns) (λ rights. Ok (with_right bit rights)))

-- the process, where it is live
abbrev pub look_up_process : Graph → ℕ → Result ℕ Refusal
look_up_process G n = if list_any (is_process n) G.procs.processes then Ok n else Err UnknownProcess

abbrev pub look_up_subject : Graph → Subject (List ℕ) ℕ → Result (Subject ℕ ℕ) Refusal
look_up_subject G (User name) = and_then (look_up G name) (λ n. Ok (User n))
look_up_subject G (Ua name) = and_then (look_up G name) (λ n. Ok (Ua n))
look_up_subject G (Process process) = and_then (look_up_process G process) (λ n. Ok (Process n))

abbrev pub prohibition : List ℕ → Subject ℕ ℕ → ℕ → List ℕ → List ℕ → Mode → Prohibition
prohibition name subject rights inc exc mode =
    record { name = name; subject = subject; rights = rights; inc = inc; exc = exc; mode = mode }

-- an element that may be left out
abbrev pub look_up_if : Graph → Option (List ℕ) → Result (Option ℕ) Refusal
look_up_if G None = Ok None
look_up_if G (Some name) = and_then (look_up G name) (λ n. Ok (Some n))

abbrev pub look_up_operation : Graph → List ℕ → Result (List ℕ) Refusal
look_up_operation G name = if is_operation G.rights name then Ok name else Err (UnknownName name)

abbrev pub look_up_when : Graph → When → Result Pattern Refusal
look_up_when G when =
    and_then (look_up_operation G when.on) (λ on. and_then (look_up_if G when.user) (λ user.
    and_then (look_up_if G when.target) (λ target. Ok (record { on = on; user = user; target = target }))))

-- what the kept review of a number is of
abbrev pub look_up_review : Graph → ℕ → Result (ReviewOf ℕ) Refusal
look_up_review G n = known_review (kept_at G.kept n) where
  known_review : Option KeptReview → Result (ReviewOf ℕ) Refusal
  known_review None = Err UnknownReview
  known_review (Some k) = Ok k.of

abbrev pub look_up_of : Graph → ReviewOf (List ℕ) → Result (ReviewOf ℕ) Refusal
look_up_of G (of.Caps name) = and_then (look_up G name) (λ n. Ok (of.Caps n))
look_up_of G (of.Entries name) = and_then (look_up G name) (λ n. Ok (of.Entries n))

abbrev pub obligation : List ℕ → ℕ → Pattern → List Action → Obligation
obligation name author pattern response = record { name = name; author = author; pattern = pattern; response = response }

-- the user who gives a command is the author of what it obliges
abbrev pub resolve : Graph → ℕ → Command → Result Change Refusal
resolve G u (command.CreatePc name) = Ok (change.Create (unused G.elements) Pc name None)
resolve G u (command.Create kind name into) = and_then (look_up G into) (λ c. Ok (change.Create (unused G.elements) kind name (Some c)))
resolve G u (command.Delete name) = and_then (look_up G name) (λ n. Ok (change.Delete n))
resolve G u (command.Assign from to) = and_then (look_up_both G from to) (λ p. Ok (change.Assign p.0 p.1))
resolve G u (command.Deassign from to) = and_then (look_up_both G from to) (λ p. Ok (change.Deassign p.0 p.1))
resolve G u (command.Associate ua rights at) =
    and_then (look_up G ua) (λ a. and_then (look_up_rights G rights) (λ r. and_then (look_up G at) (λ t. Ok (change.Associate a r t))))
resolve G u (command.Dissociate ua at) = and_then (look_up_both G ua at) (λ p. Ok (change.Dissociate p.0 p.1))
resolve G u (command.Prohibit name subject rights inc exc mode) =
    and_then (look_up_subject G subject) (λ s. and_then (look_up_rights G rights) (λ r.
    and_then (look_up_all G inc) (λ i. and_then (look_up_all G exc) (λ e. Ok (change.Prohibit (prohibition name s r i e mode))))))
resolve G u (command.Lift name) = and_then (known name (place_called G.prohibitions name)) (λ i. Ok (change.Lift i))
resolve G u (command.DefineRight name) = Ok (change.DefineRight name)
resolve G u (command.Oblige name when response) = and_then (look_up_when G when) (λ pattern. Ok (change.Oblige (obligation name u pattern response)))
resolve G u (command.Withdraw name) = and_then (known name (obliged.place_called G.obligations name)) (λ i. Ok (change.Withdraw i))
resolve G u (command.Keep of) = and_then (look_up_of G of) (λ r. Ok (change.Keep r))
resolve G u (command.DropReview n) = and_then (look_up_review G n) (λ of. Ok (change.DropReview n))

abbrev pub resolve_question : Graph → Question → Result Review Refusal
resolve_question G (question.Caps user) = and_then (look_up G user) (λ u. Ok (review.Caps u))
resolve_question G (question.Entries element) = and_then (look_up G element) (λ e. Ok (review.Entries e))
resolve_question G (question.Survey users) = and_then (look_up_all G users) (λ us. Ok (review.Survey us))
resolve_question G (question.Kept n) = and_then (look_up_review G n) (λ of. Ok (review.Kept of))
resolve_question G (question.Changes n) = and_then (look_up_review G n) (λ of. Ok (review.Changes n of))
