-- How a run ends.
use Rattle.std.proofs.Common.{◌≡◌, ◌<◌, ℕ, List, [], ◌∷◌, ◌++◌, length, take, ◌≤◌, Result, Ok, Err, IfErr, Option, None, Some, refl, sym, ◌∙◌, ap, subst, arith, length-append, false, true, nat_lt}
use Rattle.std.proofs.lemmas.List.{append-nil}
use Rattle.std.proofs.lemmas.Bool.{le-ltb, lt-ltb}
use Rattle.std.proofs.Math.Seq.{take-append_seam}
use Rattle.std.specs.Io.KnownBytes.{Consumes, IsAtEnd, Keeps}
use Rattle.std.specs.Bool.{⊤}
use Rattle.std.specs.Result.{IsErrAnd}
use Rattle.pm_model.specs.Causes.{Rose, raised}
use Rattle.pm_model.specs.State.{State, opening}
use Rattle.pm_model.specs.Lines.{Event, cut, events}
use Rattle.pm_model.specs.Solo.{solo, replies}
use Rattle.pm_session.proofs.LineLaws.{events-no_cut}
use Rattle.pm_run.specs.Coming.{coming, ahead, coming_past, state_past}
use Rattle.pm_session.specs.Streams.{Streams}
use Rattle.pm_run.specs.Ended.{Running, Sides, Ended, EndsRun}
use Rattle.pm_run.specs.Fronts.{IsProperFront}
use Rattle.pm_run.specs.Parts.{HasStopCause, stop_status}
use Rattle.pm_run.specs.Ran.{Ran, AreWholeReplies, IsComplete}
use Rattle.pm_run.specs.Reached.{AtEnd, Reached}
use Rattle.pm_run.specs.Wrote.{Wrote, WroteWhole, WrotePart}
use Rattle.pm_run.specs.declared.lines.Stop.{Stop}
use Rattle.pm_run.specs.declared.lines.Stop.TheVariants as stop
use Rattle.pm_run.specs.declared.statuses.Status.{Status}
use Rattle.pm_run.specs.declared.statuses.Status.TheVariants.{Done, Usage, ReadFault, WriteFault, Memory, TooMuch, Serve, ServeJournal}
use Rattle.pm_io.proofs.Known.{Appends-nil, Consumes-nil, Consumes-append, Consumes-kept}
use Rattle.pm_run.proofs.Running.{Reading, reading-piece, reading-whole, reading-part}

-- ---- what was written

-- where no whole line waits, all is answered
all-lines : (bytes w : List ℕ) (a b : Option (List ℕ)) (S : State) → cut w ≡ None → (h : Wrote a b opening S (coming bytes) (coming w)) → h.lines ≡ events bytes
all-lines bytes w a b S drained h =
    let none : coming w [] ≡ [] = ap events (append-nil w) ∙ events-no_cut w drained in
    sym (ap events (sym (append-nil bytes)) ∙ h.told [] ∙ ap (λ l. h.lines ++ l) none ∙ append-nil h.lines)

solo-answered : (bytes w : List ℕ) (a b : Option (List ℕ)) (S : State) → cut w ≡ None → (h : Wrote a b opening S (coming bytes) (coming w)) → replies opening h.lines ≡ solo bytes
solo-answered bytes w a b S drained h = ap (replies opening) (all-lines bytes w a b S drained h)

-- whole replies are those to the first lines
whole-replies : (bytes : List ℕ) (a b : Option (List ℕ)) (T : State) (to : List ℕ → List Event) (h : Wrote a b opening T (coming bytes) to)
    → AreWholeReplies (replies opening h.lines) bytes
whole-replies bytes a b T to h =
    let all : events bytes ≡ h.lines ++ to [] = ap events (sym (append-nil bytes)) ∙ h.told [] in
    record {
      count = length h.lines;
      within = let l = ap length all ∙ length-append h.lines (to []) in omega arith;
      split = ap (replies opening) (sym (ap (take (length h.lines)) all ∙ take-append_seam h.lines (to [])));
    }

-- a part is a proper front
proper-part : (bytes : List ℕ) (a b : Option (List ℕ)) (h : WrotePart a b (ahead opening (coming bytes))) → IsProperFront h.written (solo bytes)
proper-part bytes a b h = subst (λ l. IsProperFront h.written (replies opening (events l))) (append-nil bytes) (h.told [])

-- a proper front isn't the whole
apart : (front bytes : List ℕ) → IsProperFront front bytes → front ≡ bytes → ⊥
apart front bytes h same =
    let l = ap length h.split ∙ length-append front (h.next ∷ h.rest) in
    let e = ap length same in
    omega arith

-- ---- the ends of a run

-- before anything was read, for want of memory
pub ran-nothing : (limit : ℕ) (left taken : Option (List ℕ)) → Ran limit left left taken taken Memory
ran-nothing limit left taken = record {
  bytes = [];
  written = [];
  consumed = Consumes-nil left;
  appended = Appends-nil taken;
  due = record { count = 0; within = omega arith; split = refl };
  at_end = λ e. cc;
  within = omega arith;
  at_limit = λ other. absurd (other refl);
}

-- a source that failed
pub ran-read_fault : (limit : ℕ) (left rest last taken grown : Option (List ℕ)) (S : State) (w o : List ℕ) (n : ℕ)
    → Running left rest taken grown S w o n → n < limit → Keeps rest last
    → Ran limit left last taken grown ReadFault
ran-read_fault limit left rest last taken grown S w o n h short k = record {
  bytes = h.bytes;
  written = replies opening h.wrote.lines;
  consumed = Consumes-kept left rest last h.bytes h.consumed k;
  appended = h.wrote.appended;
  due = solo-answered h.bytes w taken grown S h.drained h.wrote;
  at_end = λ e. cc;
  within = let q = h.count in omega arith;
  at_limit = λ _. (λ e. cc, λ p. let q = h.count in let l = p.0 in let none : ⊥ = omega arith in absurd none);
}

-- a source at its end
pub ran-done : (limit : ℕ) (left rest last taken grown : Option (List ℕ)) (S : State) (w o : List ℕ) (n : ℕ)
    → Running left rest taken grown S w o n → n < limit → Consumes rest last [] → IsAtEnd last
    → Ran limit left last taken grown Done
ran-done limit left rest last taken grown S w o n h short k end = record {
  bytes = h.bytes;
  written = replies opening h.wrote.lines;
  consumed = subst (Consumes left last) (append-nil h.bytes) (Consumes-append left rest last h.bytes [] h.consumed k);
  appended = h.wrote.appended;
  due = solo-answered h.bytes w taken grown S h.drained h.wrote;
  at_end = λ _. end;
  within = let q = h.count in omega arith;
  at_limit = λ _. (λ e. cc, λ p. let q = h.count in let l = p.0 in let none : ⊥ = omega arith in absurd none);
}

-- and then the machine has answered all
pub reached-done : (limit : ℕ) (left rest last taken grown : Option (List ℕ)) (S T : State) (w o : List ℕ) (n : ℕ)
    → Running left rest taken grown S w o n → n < limit → AtEnd rest last S T → Reached limit left last T
reached-done limit left rest last taken grown S T w o n h short end = record {
  bytes = h.bytes;
  consumed = subst (Consumes left last) (append-nil h.bytes) (Consumes-append left rest last h.bytes [] h.consumed end.nothing);
  at_end = end.at_end;
  short = let q = h.count in omega arith;
  state = end.same ∙ h.wrote.state ∙ ap (state_past opening) (all-lines h.bytes w taken grown S h.drained h.wrote);
}

-- so it must be, where the input is shorter than the limit
pub complete-done : (limit : ℕ) (left rest last taken grown : Option (List ℕ)) (S : State) (w o : List ℕ) (n : ℕ)
    → Running left rest taken grown S w o n → n < limit → Consumes rest last [] → IsAtEnd last → IsComplete limit left Done
complete-done limit None rest last taken grown S w o n h short k end = tt
complete-done limit (Some input) None last taken grown S w o n h short k end = absurd h.consumed
complete-done limit (Some input) (Some behind) None taken grown S w o n h short k end = absurd k
complete-done limit (Some input) (Some behind) (Some last) taken grown S w o n h short k end = λ _.
    let l = ap length h.consumed ∙ length-append h.bytes behind in
    let b : length behind ≡ 0 = ap length (k ∙ end) in
    let q = h.count in
    let before : nat_lt (length input) limit ≡ true = lt-ltb (length input) limit (omega arith) in rw before refl

-- as many bytes as the limit
pub ran-much : (limit : ℕ) (left rest taken grown : Option (List ℕ)) (S : State) (w o : List ℕ) (n : ℕ)
    → Running left rest taken grown S w o n → n ≡ limit → Ran limit left rest taken grown TooMuch
ran-much limit left rest taken grown S w o n h much =
    let all = solo-answered h.bytes w taken grown S h.drained h.wrote in
    record {
      bytes = h.bytes;
      written = replies opening h.wrote.lines;
      consumed = h.consumed;
      appended = h.wrote.appended;
      due = all;
      at_end = λ e. cc;
      within = let q = h.count in omega arith;
      at_limit = λ _. (λ _. (h.count ∙ much, all), λ _. refl);
    }

-- so it must be, where the input is that long
pub complete-much : (limit : ℕ) (left rest taken grown : Option (List ℕ)) (S : State) (w o : List ℕ) (n : ℕ)
    → Running left rest taken grown S w o n → n ≡ limit → IsComplete limit left TooMuch
complete-much limit None rest taken grown S w o n h much = tt
complete-much limit (Some input) None taken grown S w o n h much = absurd h.consumed
complete-much limit (Some input) (Some behind) taken grown S w o n h much = λ _.
    let l = ap length h.consumed ∙ length-append h.bytes behind in
    let q = h.count in
    let past : nat_lt (length input) limit ≡ false = le-ltb (length input) limit (omega arith) in rw past refl

-- a sink that failed
pub ran-write_fault : (limit : ℕ) (left rest taken grown now : Option (List ℕ)) (S : State) (w piece : List ℕ)
    → Reading left rest taken grown S w piece limit → WrotePart grown now (ahead S (coming_past w piece))
    → Ran limit left rest taken now WriteFault
ran-write_fault limit left rest taken grown now S w piece h part =
    let all = reading-part limit left rest taken grown now S w piece h part in
    let due = proper-part h.bytes taken now all in
    record {
      bytes = h.bytes;
      written = all.written;
      consumed = h.consumed;
      appended = all.appended;
      due = due;
      at_end = λ e. cc;
      within = h.within;
      at_limit = λ _. (λ e. cc, λ p. absurd (apart all.written (solo h.bytes) due p.1));
    }

-- no memory for a line
pub ran-memory : (limit : ℕ) (left rest taken grown now : Option (List ℕ)) (S T : State) (w piece : List ℕ)
    → Reading left rest taken grown S w piece limit → WroteWhole grown now S T (coming_past w piece)
    → Ran limit left rest taken now Memory
ran-memory limit left rest taken grown now S T w piece h whole =
    let told = reading-whole limit left rest taken grown now S T w piece h whole in
    let all = told.1 in
    record {
      bytes = h.bytes;
      written = replies opening all.lines;
      consumed = h.consumed;
      appended = all.appended;
      due = whole-replies h.bytes taken now T told.0 all;
      at_end = λ e. cc;
      within = h.within;
      at_limit = λ other. absurd (other refl);
    }

-- nothing to be done
pub ran-usage : (limit : ℕ) (left taken : Option (List ℕ)) → 0 < limit → Ran limit left left taken taken Usage
ran-usage limit left taken some = record {
  bytes = [];
  written = [];
  consumed = Consumes-nil left;
  appended = Appends-nil taken;
  due = (refl, refl);
  at_end = λ e. cc;
  within = omega arith;
  at_limit = λ _. (λ e. cc, λ p. let l = p.0 in let none : ⊥ = omega arith in absurd none);
}

-- nor where a server is asked for
pub ran-serve : (limit port workers : ℕ) (left taken : Option (List ℕ)) → 0 < limit → Ran limit left left taken taken (Serve port workers)
ran-serve limit port workers left taken some = record {
  bytes = [];
  written = [];
  consumed = Consumes-nil left;
  appended = Appends-nil taken;
  due = (refl, refl);
  at_end = λ e. cc;
  within = omega arith;
  at_limit = λ _. (λ e. cc, λ p. let l = p.0 in let none : ⊥ = omega arith in absurd none);
}

-- with a journal or without
pub ran-serve_journal : (limit port workers : ℕ) (left taken : Option (List ℕ)) → 0 < limit → Ran limit left left taken taken (ServeJournal port workers)
ran-serve_journal limit port workers left taken some = record {
  bytes = [];
  written = [];
  consumed = Consumes-nil left;
  appended = Appends-nil taken;
  due = (refl, refl);
  at_end = λ e. cc;
  within = omega arith;
  at_limit = λ _. (λ e. cc, λ p. let l = p.0 in let none : ⊥ = omega arith in absurd none);
}

-- ---- all that a run tells

complete-memory : (limit : ℕ) (left : Option (List ℕ)) → IsComplete limit left Memory
complete-memory limit None = tt
complete-memory limit (Some input) = λ other. absurd (other refl)

-- before anything was read, for want of memory
pub ended-nothing : (limit : ℕ) (sides : Sides) → Ended limit sides sides Memory
ended-nothing limit sides = record {
  ran = ran-nothing limit sides.left sides.taken;
  usage = λ e. cc;
  serve = λ p q e. cc;
  journal = λ p q e. cc;
  number = omega arith;
  complete = λ _ _. complete-memory limit sides.left;
  read = λ e. cc;
  read_kept = λ _. refl;
  write = λ e. cc;
  write_kept = λ _. refl;
  end = λ e. cc;
  end_kept = λ _. refl;
}

-- a read that failed ends it
pub ends-read_fault : (behind rest taken : Option (List ℕ)) (f g e k w : ℕ) (S : State) (s : Streams) (most : ℕ)
    → 0 < most → Keeps behind rest → Rose f g → k ≡ e
    → EndsRun (record { left = behind; taken = taken; read_faults = f; ends = e; write_faults = w }) (record { left = rest; taken = taken; read_faults = g; ends = k; write_faults = w }) S s most ReadFault
ends-read_fault behind rest taken f g e k w S s most some keeps rose unended = λ limit total left first run room. record {
  ran = ran-read_fault limit left behind rest first taken S s.waiting s.output total run (omega arith) keeps;
  usage = λ e. cc;
  serve = λ p q e. cc;
  journal = λ p q e. cc;
  number = omega arith;
  complete = λ calm _. absurd (calm rose);
  read = λ _. rose;
  read_kept = λ other. absurd (other refl);
  write = λ e. cc;
  write_kept = λ _. refl;
  end = λ e. cc;
  end_kept = λ _. unended;
}

-- the end of the source does
pub ends-done : (behind rest taken : Option (List ℕ)) (f g e k w : ℕ) (S : State) (s : Streams) (most : ℕ)
    → 0 < most → Consumes behind rest [] → IsAtEnd rest → g ≡ f → k ≡ raised e
    → EndsRun (record { left = behind; taken = taken; read_faults = f; ends = e; write_faults = w }) (record { left = rest; taken = taken; read_faults = g; ends = k; write_faults = w }) S s most Done
ends-done behind rest taken f g e k w S s most some nothing at_end kept ended = λ limit total left first run room. record {
  ran = ran-done limit left behind rest first taken S s.waiting s.output total run (omega arith) nothing at_end;
  usage = λ e. cc;
  serve = λ p q e. cc;
  journal = λ p q e. cc;
  number = omega arith;
  complete = λ _ _. complete-done limit left behind rest first taken S s.waiting s.output total run (omega arith) nothing at_end;
  read = λ e. cc;
  read_kept = λ _. kept;
  write = λ e. cc;
  write_kept = λ _. refl;
  end = λ _. ended;
  end_kept = λ other. absurd (other refl);
}

-- and so does a stop within the lines of a piece
pub ends-stop : (behind rest taken now : Option (List ℕ)) (f g e k w v : ℕ) (S T : State) (s : Streams) (most : ℕ) (piece : List ℕ) (why : Stop)
    → Consumes behind rest piece → length piece ≤ most → g ≡ f → k ≡ e
    → (◌≡◌ {A = Result ⊤ Stop} (Err why) (Err stop.WriteFault) → WrotePart taken now (ahead S (coming_past s.waiting piece)))
    → (◌≡◌ {A = Result ⊤ Stop} (Err why) (Err stop.Memory) → WroteWhole taken now S T (coming_past s.waiting piece))
    → HasStopCause {T = ⊤} w v (Err why)
    → EndsRun (record { left = behind; taken = taken; read_faults = f; ends = e; write_faults = w }) (record { left = rest; taken = now; read_faults = g; ends = k; write_faults = v }) S s most (stop_status why)
ends-stop behind rest taken now f g e k w v S T s most piece stop.WriteFault came short kept unended part whole cause = λ limit total left first run room.
    let rose = cause.failed refl in
    record {
      ran = ran-write_fault limit left rest first taken now S s.waiting piece (reading-piece limit left behind rest first taken S s.waiting s.output total piece run came (omega arith)) (part refl);
      usage = λ e. cc;
      serve = λ p q e. cc;
      journal = λ p q e. cc;
      number = omega arith;
      complete = λ _ calm. absurd (calm rose);
      read = λ e. cc;
      read_kept = λ _. kept;
      write = λ _. rose;
      write_kept = λ other. absurd (other refl);
      end = λ e. cc;
      end_kept = λ _. unended;
    }
ends-stop behind rest taken now f g e k w v S T s most piece stop.Memory came short kept unended part whole cause = λ limit total left first run room. record {
  ran = ran-memory limit left rest first taken now S T s.waiting piece (reading-piece limit left behind rest first taken S s.waiting s.output total piece run came (omega arith)) (whole refl);
  usage = λ e. cc;
  serve = λ p q e. cc;
  journal = λ p q e. cc;
  number = omega arith;
  complete = λ _ _. complete-memory limit left;
  read = λ e. cc;
  read_kept = λ _. kept;
  write = λ e. cc;
  write_kept = λ _. cause.kept (λ e. cc);
  end = λ e. cc;
  end_kept = λ _. unended;
}

-- as many bytes as the limit end it too
pub ended-much : (limit : ℕ) (left rest taken grown : Option (List ℕ)) (f g e k w v : ℕ) (S : State) (waiting output : List ℕ) (total : ℕ)
    → Running left rest taken grown S waiting output total → total ≡ limit → g ≡ f → k ≡ e → v ≡ w
    → Ended limit (record { left = left; taken = taken; read_faults = f; ends = e; write_faults = w }) (record { left = rest; taken = grown; read_faults = g; ends = k; write_faults = v }) TooMuch
ended-much limit left rest taken grown f g e k w v S waiting output total run much kept unended written = record {
  ran = ran-much limit left rest taken grown S waiting output total run much;
  usage = λ e. cc;
  serve = λ p q e. cc;
  journal = λ p q e. cc;
  number = omega arith;
  complete = λ _ _. complete-much limit left rest taken grown S waiting output total run much;
  read = λ e. cc;
  read_kept = λ _. kept;
  write = λ e. cc;
  write_kept = λ _. written;
  end = λ e. cc;
  end_kept = λ _. unended;
}

-- the counts are those of the beginning, as long as nothing has risen
pub ended-since : (limit : ℕ) (left taken : Option (List ℕ)) (f g e k w v : ℕ) (new : Sides) (status : Status) → g ≡ f → k ≡ e → v ≡ w
    → Ended limit (record { left = left; taken = taken; read_faults = g; ends = k; write_faults = v }) new status
    → Ended limit (record { left = left; taken = taken; read_faults = f; ends = e; write_faults = w }) new status
ended-since limit left taken f g e k w v new status kept unended written ended = rw (sym kept, sym unended, sym written) ended

-- an error that is told
pub if_err_of : {T E : Type 0} (P : E → Type 0) (r : Result T E) (e : E) → IsErrAnd r (λ d. d ≡ e) → P e → IfErr r P
if_err_of P (Ok x) e is p = absurd is
if_err_of P (Err d) e is p = rw is p
