-- Lines are answered, one after another.
use Rattle.std.proofs.Common.{◌≡◌, ◌<◌, ◌≤◌, ℕ, List, [], ◌∷◌, ◌++◌, length, Option, None, Some, option_map, Result, Ok, Err, OnOk, refl, sym, ◌∙◌, ap, arith, subst, append_assoc, length-append}
use Rattle.std.proofs.lemmas.List.{append-nil}
use Rattle.std.proofs.lemmas.Option.{none-some, same_Some}
use Rattle.pm_model.specs.State.{State}
use Rattle.pm_model.specs.Answer.{after}
use Rattle.pm_model.specs.Lines.{Event, cut, event_of}
use Rattle.pm_model.specs.Solo.{asked_at, answer_what, line_told, reply_to, replies, state_after}
use Rattle.pm_model.specs.declared.requests.Asked.{Asked}
use Rattle.pm_session.proofs.LineLaws.{IsCut-cut, events-cut}
use Rattle.pm_session.specs.Streams.{HasReplyRoom}
use Rattle.pm_session.specs.Taken.{rest_of}
use Rattle.std.specs.Bool.{⊤}
use Rattle.pm_run.specs.declared.lines.Stop.{Stop}
use Rattle.pm_run.specs.declared.lines.Stop.TheVariants as stop
use Rattle.pm_run.specs.Coming.{coming, ahead, state_past, longest_reply}
use Rattle.pm_run.specs.Parts.{next_asked}
use Rattle.pm_run.specs.Wrote.{WrotePart, Moved, Answered, AnsweredWhole}
use Rattle.pm_io.proofs.Known.{Appends-nil, Appends-append}
use Rattle.pm_run.proofs.Writing.{replies-append, state_past-append, IsProperFront-behind, IsProperFront-before}

-- what is asked, by how the bytes are cut
abbrev asked_of : Option (List ℕ × List ℕ) → Option Asked
asked_of o = option_map asked_at (option_map (λ (p : List ℕ × List ℕ). event_of p.0) o)

-- the first line that waits asks this
pub record NextLine (w : List ℕ) (a : Asked) : Type 0 where
  pub event : Event
  pub asked : a ≡ asked_at event
  pub told : (more : List ℕ) → coming w more ≡ event ∷ coming (rest_of w (cut w)) more
  pub shorter : length (rest_of w (cut w)) < length w

next-by : (o : Option (List ℕ × List ℕ)) (w : List ℕ) (a : Asked) → cut w ≡ o → Some a ≡ asked_of o → NextLine w a
next-by None w a e h = absurd (none-some a (sym h))
next-by (Some p) w a e h =
    let k = IsCut-cut w p e in
    let n = ap length k.split ∙ length-append p.0 (10 ∷ p.1) in
    record {
      event = event_of p.0;
      asked = same_Some a (asked_at (event_of p.0)) h;
      told = λ more. events-cut w p.0 p.1 more k ∙ ap (λ (o : Option (List ℕ × List ℕ)). event_of p.0 ∷ coming (rest_of w o) more) (sym e);
      shorter = let r : length (rest_of w (cut w)) ≡ length p.1 = ap (λ (o : Option (List ℕ × List ℕ)). length (rest_of w o)) e in omega arith;
    }

pub next-line : (w : List ℕ) (a : Asked) → Some a ≡ next_asked w → NextLine w a
next-line w a h = next-by (cut w) w a refl h

-- what the line's reply is
reply-is : (S : State) (o : List ℕ) (a : Asked) (event : Event) → a ≡ asked_at event → o ≡ line_told a.id S (answer_what S a.what) → o ≡ reply_to S event
reply-is S o a event asked is = is ∙ ap (λ (b : Asked). line_told b.id S (answer_what S b.what)) asked

-- the last reply is no longer than the longest
longest-last : (R : State) (lines : List Event) (e : Event) → length (reply_to (state_past R lines) e) ≤ longest_reply R (lines ++ e ∷ [])
longest-last R [] e = omega arith
longest-last R (x ∷ xs) e = let h = longest-last (state_after R x) xs e in omega (arith, h)

-- ---- what was written and what stands in the output, together

-- nothing yet
pub answered-none : (before : Option (List ℕ)) (output : List ℕ) (S : State) (from : List ℕ → List Event) → output ≡ [] → Answered before before output S S from from
answered-none before output S from none = record {
  lines = [];
  written = [];
  appended = Appends-nil before;
  together = none;
  short = let l = ap length none in omega (arith, l);
  state = refl;
  told = λ more. refl;
}

-- one more line was answered
pub answered-line : (before now : Option (List ℕ)) (o p : List ℕ) (R S T : State) (from : List ℕ → List Event) (w v : List ℕ) (a : Asked)
    → Answered before now o R S from (coming w) → NextLine w a
    → HasReplyRoom o → p ≡ o ++ line_told a.id S (answer_what S a.what) → T ≡ after S (answer_what S a.what) → v ≡ rest_of w (cut w)
    → Answered before now p R T from (coming v)
answered-line before now o p R S T from w v a h next room is state rest =
    let one = reply-is S (line_told a.id S (answer_what S a.what)) a next.event next.asked refl in
    record {
      lines = h.lines ++ next.event ∷ [];
      written = h.written;
      appended = h.appended;
      together =
          ap (λ l. h.written ++ l) (is ∙ ap (λ l. o ++ l) one) ∙ sym (append_assoc h.written o (reply_to S next.event))
          ∙ ap (λ l. l ++ reply_to S next.event) h.together
          ∙ ap (λ l. replies R h.lines ++ l) (sym (append-nil (reply_to S next.event)))
          ∙ ap (λ t. replies R h.lines ++ replies t (next.event ∷ [])) h.state
          ∙ sym (replies-append R h.lines (next.event ∷ []));
      short =
          let last =
          subst (λ (t : State). length (reply_to t next.event) ≤ longest_reply R (h.lines ++ next.event ∷ [])) (sym h.state)
          (longest-last R h.lines next.event) in
          let both = ap length (is ∙ ap (λ (l : List ℕ). o ++ l) one) ∙ length-append o (reply_to S next.event) in
          omega (arith, last, both, room);
      state =
          state ∙ ap (λ (b : Asked). after S (answer_what S b.what)) next.asked
          ∙ ap (λ t. state_past t (next.event ∷ [])) h.state ∙ sym (state_past-append R h.lines (next.event ∷ []));
      told = λ more.
          h.told more ∙ ap (λ l. h.lines ++ l) (next.told more ∙ ap (λ l. next.event ∷ coming l more) (sym rest))
          ∙ sym (append_assoc h.lines (next.event ∷ []) (coming v more));
    }

-- what is written out of the output changes nothing of the whole
pub answered-moved : (before now later : Option (List ℕ)) (o q p : List ℕ) (S T : State) (from to : List ℕ → List Event)
    → Answered before now o S T from to → q ≡ o → Moved now later q p → Answered before later p S T from to
answered-moved before now later o q p S T from to h same moved = record {
  lines = h.lines;
  written = h.written ++ moved.written;
  appended = Appends-append before now later h.written moved.written h.appended moved.appended;
  together = append_assoc h.written moved.written p ∙ ap (λ l. h.written ++ l) (sym moved.split ∙ same) ∙ h.together;
  short =
      let less = sym (ap length same) ∙ ap length moved.split ∙ length-append moved.written p in
      let before = h.short in
      omega (arith, less, before);
  state = h.state;
  told = h.told;
}

-- where it isn't written whole, a front is written with something missing
pub answered-part : (before now later : Option (List ℕ)) (o q : List ℕ) (S T : State) (from to : List ℕ → List Event)
    → Answered before now o S T from to → q ≡ o → WrotePart now later (λ _. q) → WrotePart before later (ahead S from)
answered-part before now later o q S T from to h same part = record {
  written = h.written ++ part.written;
  appended = Appends-append before now later h.written part.written h.appended part.appended;
  told = λ more.
      IsProperFront-before (h.written ++ part.written) (replies S h.lines) (replies (state_past S h.lines) (to more)) (replies S (from more))
      (IsProperFront-behind h.written part.written q (replies S h.lines) (part.told more) (sym (ap (λ l. h.written ++ l) same ∙ h.together)))
      (ap (replies S) (h.told more) ∙ replies-append S h.lines (to more));
}

-- a line got no reply, and changed nothing
pub answered-whole : (before now : Option (List ℕ)) (o p : List ℕ) (S T U : State) (from to : List ℕ → List Event)
    → Answered before now o S T from to → p ≡ o → U ≡ T → AnsweredWhole before now p S U from
answered-whole before now o p S T U from to h same kept = rw (same, kept) (to, h)

-- a part of what stands in the output is written, whether the lines were all answered or not
pub answered-unsent : (before now later : Option (List ℕ)) (o : List ℕ) (S T : State) (from to : List ℕ → List Event) (r : Result ⊤ Stop)
    → OnOk r (Answered before now o S T from to) → (r ≡ Err stop.Memory → AnsweredWhole before now o S T from) → (r ≡ Err stop.WriteFault → ⊥)
    → WrotePart now later (λ _. o) → WrotePart before later (ahead S from)
answered-unsent before now later o S T from to (Ok u) all whole apart part = answered-part before now later o o S T from to all refl part
answered-unsent before now later o S T from to (Err stop.Memory) all whole apart part =
    let w = whole refl in answered-part before now later o o S T from w.0 w.1 refl part
answered-unsent before now later o S T from to (Err stop.WriteFault) all whole apart part = absurd (apart refl)
