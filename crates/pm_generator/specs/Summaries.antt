-- What a run of requests by one caller comes to. The project's own.
use Rattle.std.specs.Prelude.{ℕ, Bool, true, false, not, List, [], ◌∷◌, ◌++◌, ◌+◌, ◌-◌, if◌then◌else◌, length, codes, decimal, Option, None, Some}
use Rattle.pm_model.specs.State.{State}
use Rattle.pm_model.specs.Answer.{answer}
use Rattle.pm_model.specs.History.{replay}
use Rattle.pm_model.specs.Recorded.{next_entry, recorded}
use Rattle.pm_model.specs.declared.replies.Refusal.TheVariants.{Denied}
use Rattle.pm_model.specs.declared.replies.Reply.{Reply}
use Rattle.pm_model.specs.declared.replies.Reply.TheVariants.{Bad, Ahead, Granted, Refused, ResponseRefused, KeepFault}
use Rattle.pm_model.specs.declared.requests.Entry.{Entry}
use Rattle.pm_model.specs.declared.requests.Request.{Request}
use Rattle.pm_model.specs.declared.requests.What.TheVariants as what
use Rattle.pm_affect.specs.Counting.{Judged, Written, capped, work_in}
use Rattle.pm_generator.specs.declared.summary.Summary.{Summary}

-- ---- replies

abbrev pub is_grant : Reply → Bool
is_grant (Granted fired) = true
is_grant _ = false

-- the user lacks a right
abbrev pub is_denial : Reply → Bool
is_denial (Refused (Denied right target reason)) = true
is_denial _ = false

-- it says no for another reason
abbrev pub is_other_refusal : Reply → Bool
is_other_refusal (Bad bad) = true
is_other_refusal Ahead = true
is_other_refusal (Refused why) = not (is_denial (Refused why))
is_other_refusal (ResponseRefused obligation action why) = true
is_other_refusal KeepFault = true
is_other_refusal _ = false

-- ---- a run

-- the history once these requests are answered, one after another
abbrev pub history_after : List Entry → List Request → List Entry
history_after H [] = H
history_after H (r ∷ rs) = history_after (recorded H (what.Request r)) rs

-- the sum over these requests of what each adds, by the history before it
abbrev pub sum_over : (List Entry → Request → ℕ) → List Entry → List Request → ℕ
sum_over adds H [] = 0
sum_over adds H (r ∷ rs) = adds H r + sum_over adds (recorded H (what.Request r)) rs

-- one for each request whose reply is of a kind
abbrev pub replied : (Reply → Bool) → List Entry → Request → ℕ
replied is H r = if is (answer (replay H) r).reply then 1 else 0

-- what an entry leaves shared with the version before it: the elements that are live after it, less the rows that it wrote
abbrev pub shared_by : List Entry → Entry → ℕ
shared_by H e =
    length (replay (H ++ e ∷ [])).graph.elements - (capped (work_in Written (H ++ e ∷ [])) - capped (work_in Written H))

abbrev pub shared_after : List Entry → Request → Option State → ℕ
shared_after H r None = 0
shared_after H r (Some S) = shared_by H (next_entry H r)

-- where the request is an entry
abbrev pub shared : List Entry → Request → ℕ
shared H r = shared_after H r (answer (replay H) r).next

-- what all of them come to, from the opening state on
abbrev pub summary : List Request → Summary
summary rs = record {
  requests = length rs;
  entries = length (history_after [] rs);
  granted = sum_over (replied is_grant) [] rs;
  denied = sum_over (replied is_denial) [] rs;
  refused = sum_over (replied is_other_refusal) [] rs;
  rows = capped (work_in Written (history_after [] rs));
  shared = sum_over shared [] rs;
  judged = capped (work_in Judged (history_after [] rs));
}

-- ---- its text: eight lines, each a word, a space and a number

abbrev pub line : List ℕ → ℕ → List ℕ
line word n = word ++ codes " " ++ decimal n ++ codes "\n"

-- how the requests were answered
abbrev pub answers_text : Summary → List ℕ
answers_text s =
    line (codes "requests") s.requests
    ++ line (codes "entries") s.entries
    ++ line (codes "granted") s.granted
    ++ line (codes "denied") s.denied
    ++ line (codes "refused") s.refused

-- what it took
abbrev pub work_text : Summary → List ℕ
work_text s = line (codes "rows") s.rows ++ line (codes "shared") s.shared ++ line (codes "judged") s.judged

abbrev pub summary_text : Summary → List ℕ
summary_text s = answers_text s ++ work_text s
