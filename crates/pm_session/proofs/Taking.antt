-- What is shown of the first line, and what is left.
use Rattle.std.proofs.Common.{◌≡◌, ℕ, List, None, Some, length, refl, sym, ◌∙◌, ap}
use Rattle.pm_model.specs.Lines.{Event, cut, event_of}
use Rattle.pm_session.specs.Cuts.{IsCut, HasNoFeed}
use Rattle.pm_session.proofs.FirstLine.{cut-line, cut-plain, shape-rest, open_line-rest}
use Rattle.pm_session.specs.Streams.{Streams}
use Rattle.pm_session.specs.Waiting.{IsWaiting}
use Rattle.pm_session.specs.Taken.{LeavesRest, rest_of, first_event}

-- the session sees these bytes as waiting and as output
pub record Holds (s : Streams) (w o : List ℕ) : Type 0 where
  pub waiting : w ≡ s.waiting
  pub output : o ≡ s.output

abbrev streams : List ℕ → List ℕ → Streams
streams w o = record { waiting = w; output = o }

-- as the view of its fields says
pub Holds-view : (s : Streams) (w o : List ℕ) → streams w o ≡ s → Holds s w o
Holds-view s w o e = record {
  waiting = ap (λ (t : Streams). t.waiting) e;
  output = ap (λ (t : Streams). t.output) e;
}

LeavesRest-by : (old : Streams) (w rest o : List ℕ) → Holds old w o → rest ≡ rest_of w (cut w) → LeavesRest old (streams rest o)
LeavesRest-by old w rest o is left = record {
  waiting = left ∙ ap (λ v. rest_of v (cut v)) is.waiting;
  output = is.output;
}

-- without a line feed all is left
pub LeavesRest-none : (old : Streams) (w o : List ℕ) → Holds old w o → HasNoFeed w → LeavesRest old (streams w o)
LeavesRest-none old w o is plain = LeavesRest-by old w w o is (sym (ap (rest_of w) (cut-plain w plain)))

-- and there is no event
pub first_event-none : (old : Streams) (w o : List ℕ) → Holds old w o → HasNoFeed w → None ≡ first_event old.waiting
first_event-none old w o is plain = let e = sym (ap cut is.waiting) ∙ cut-plain w plain in rw e refl

-- where a line is whole, what is behind it is left
pub LeavesRest-some : (old : Streams) (w o line rest : List ℕ) → Holds old w o → IsCut w line rest → LeavesRest old (streams rest o)
LeavesRest-some old w o line rest is h = LeavesRest-by old w rest o is (sym (ap (rest_of w) (cut-line w line rest h)))

-- and the event is that of the line
pub first_event-some : (old : Streams) (w o line rest : List ℕ) (event : Event) → Holds old w o → IsCut w line rest → event ≡ event_of line
    → Some event ≡ first_event old.waiting
first_event-some old w o line rest event is h told = let e = sym (ap cut is.waiting) ∙ cut-line w line rest h in rw e (ap (λ x. Some x) told)

-- what waits behind a line is kept as it was
pub IsWaiting-rest : (w line rest : List ℕ) (tail : ℕ) → IsWaiting w tail → IsCut w line rest → IsWaiting rest tail
IsWaiting-rest w line rest tail kept h = record {
  shaped = shape-rest w line rest h kept.shaped;
  opened = ap length (sym (open_line-rest w line rest h)) ∙ kept.opened;
}
