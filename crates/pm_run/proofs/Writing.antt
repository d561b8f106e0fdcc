-- What is written, one part after another.
use Rattle.std.proofs.Common.{◌≡◌, ◌≤◌, ◌<◌, ◌+◌, ℕ, List, [], ◌∷◌, ◌++◌, length, take, drop, Option, refl, sym, ◌∙◌, ap, arith, append_assoc, length-drop, take-append-drop, subst, Ok, Err, OnErr, Result}
use Rattle.std.proofs.Math.Seq.{take-add}
use Rattle.std.specs.Io.KnownBytes.{Appends, Keeps}
use Rattle.pm_model.specs.State.{State}
use Rattle.pm_model.specs.Lines.{Event}
use Rattle.pm_model.specs.Solo.{replies, reply_to, state_after}
use Rattle.pm_run.specs.Coming.{ahead, state_past}
use Rattle.pm_run.specs.Fronts.{IsProperFront}
use Rattle.pm_run.specs.Wrote.{Wrote, WrotePart}
use Rattle.pm_io.proofs.Known.{Appends-append, Appends-kept}

-- the replies to two lists of lines
pub replies-append : (S : State) (a b : List Event) → replies S (a ++ b) ≡ replies S a ++ replies (state_past S a) b
replies-append S [] b = refl
replies-append S (e ∷ es) b =
    ap (λ l. reply_to S e ++ l) (replies-append (state_after S e) es b)
    ∙ sym (append_assoc (reply_to S e) (replies (state_after S e) es) (replies (state_past (state_after S e) es) b))

-- the state after two lists of lines
pub state_past-append : (S : State) (a b : List Event) → state_past S (a ++ b) ≡ state_past (state_past S a) b
state_past-append S [] b = refl
state_past-append S (e ∷ es) b = state_past-append (state_after S e) es b

-- the replies to some lines, and then to more
appended-more : (a b c : Option (List ℕ)) (S T : State) (lines more : List Event) → T ≡ state_past S lines → Appends a b (replies S lines) → Appends b c (replies T more)
    → Appends a c (replies S (lines ++ more))
appended-more a b c S T lines more state first second =
    subst (Appends a c) (ap (λ t. replies S lines ++ replies t more) state ∙ sym (replies-append S lines more))
    (Appends-append a b c (replies S lines) (replies T more) first second)

-- two steps are one
pub Wrote-then : (a b c : Option (List ℕ)) (S T U : State) (f g h : List ℕ → List Event) → Wrote a b S T f g → Wrote b c T U g h → Wrote a c S U f h
Wrote-then a b c S T U f g h first second = record {
  lines = first.lines ++ second.lines;
  appended = appended-more a b c S T first.lines second.lines first.state first.appended second.appended;
  state = second.state ∙ ap (λ t. state_past t second.lines) first.state ∙ sym (state_past-append S first.lines second.lines);
  told = λ more. first.told more ∙ ap (λ l. first.lines ++ l) (second.told more) ∙ sym (append_assoc first.lines second.lines (h more));
}

-- a proper front behind other bytes
pub IsProperFront-behind : (a front bytes all : List ℕ) → IsProperFront front bytes → all ≡ a ++ bytes → IsProperFront (a ++ front) all
IsProperFront-behind a front bytes all h is = record {
  next = h.next;
  rest = h.rest;
  split = is ∙ ap (λ l. a ++ l) h.split ∙ sym (append_assoc a front (h.next ∷ h.rest));
}

-- a proper front of bytes behind which others come
pub IsProperFront-before : (front bytes later all : List ℕ) → IsProperFront front bytes → all ≡ bytes ++ later → IsProperFront front all
IsProperFront-before front bytes later all h is = record {
  next = h.next;
  rest = h.rest ++ later;
  split = is ∙ ap (λ l. l ++ later) h.split ∙ append_assoc front (h.next ∷ h.rest) later;
}

-- lines that were answered, and then a part
pub Wrote-then_part : (a b c : Option (List ℕ)) (S T : State) (f g : List ℕ → List Event) → Wrote a b S T f g → WrotePart b c (ahead T g) → WrotePart a c (ahead S f)
Wrote-then_part a b c S T f g first second = record {
  written = replies S first.lines ++ second.written;
  appended = Appends-append a b c (replies S first.lines) second.written first.appended second.appended;
  told = λ more. IsProperFront-behind (replies S first.lines) second.written (replies T (g more)) (replies S (f more)) (second.told more)
      (ap (replies S) (first.told more) ∙ replies-append S first.lines (g more) ∙ ap (λ t. replies S first.lines ++ replies t (g more)) (sym first.state));
}

-- a front of a text is one of it and another
pub WrotePart-before : (a b : Option (List ℕ)) (first second : List ℕ) → WrotePart a b (λ _. first) → WrotePart a b (λ _. first ++ second)
WrotePart-before a b first second part = record {
  written = part.written;
  appended = part.appended;
  told = λ more. IsProperFront-before part.written first second (first ++ second) (part.told more) refl;
}

-- a text, and then a front of another
pub WrotePart-behind : {T E : Type 0} (a b c : Option (List ℕ)) (first second : List ℕ) (r : Result T E) → Appends a b first → OnErr r (WrotePart b c (λ _. second))
    → OnErr r (WrotePart a c (λ _. first ++ second))
WrotePart-behind a b c first second (Ok x) here behind = tt
WrotePart-behind a b c first second (Err e) here behind = record {
  written = first ++ behind.written;
  appended = Appends-append a b c first behind.written here behind.appended;
  told = λ more. IsProperFront-behind first behind.written second (first ++ second) (behind.told more) refl;
}

-- ---- a loop that writes

-- this many bytes are sent
pub record Sending (before now : Option (List ℕ)) (first count : ℕ) (bytes : List ℕ) (sent : ℕ) : Type 0 where
  pub within : sent ≤ length bytes
  pub appended : Appends before now (take sent bytes)
  pub kept : count ≡ first

pub on_err_of : {T E P : Type 0} (r : Result T E) → P → OnErr r P
on_err_of (Ok x) p = tt
on_err_of (Err e) p = p

front-drop : (front rest bytes : List ℕ) → bytes ≡ front ++ rest → 0 < length rest → IsProperFront front bytes
front-drop front [] bytes is some = let none : ⊥ = omega arith in absurd none
front-drop front (x ∷ xs) bytes is some = record { next = x; rest = xs; split = is }

-- what is sent is a proper front, where a byte is left
IsProperFront-take : (sent : ℕ) (bytes : List ℕ) → sent < length bytes → IsProperFront (take sent bytes) bytes
IsProperFront-take sent bytes short =
    let d = length-drop sent bytes in
    front-drop (take sent bytes) (drop sent bytes) bytes (sym (take-append-drop sent bytes)) (omega arith)

-- a write that took nothing
pub sending-kept : (a b c : Option (List ℕ)) (f g : ℕ) (bytes : List ℕ) (sent : ℕ) → Sending a b f g bytes sent → sent < length bytes → Keeps b c → WrotePart a c (λ _. bytes)
sending-kept a b c f g bytes sent h short k = record {
  written = take sent bytes;
  appended = Appends-kept a b c (take sent bytes) h.appended k;
  told = λ _. IsProperFront-take sent bytes short;
}

appended-next : (a b c : Option (List ℕ)) (bytes : List ℕ) (sent n : ℕ) → Appends a b (take sent bytes) → Appends b c (take n (drop sent bytes)) → Appends a c (take (sent + n) bytes)
appended-next a b c bytes sent n h k =
    subst (Appends a c) (sym (take-add sent n bytes)) (Appends-append a b c (take sent bytes) (take n (drop sent bytes)) h k)

-- a write that took some
pub sending-more : (a b c : Option (List ℕ)) (f g k : ℕ) (bytes : List ℕ) (sent n : ℕ) → Sending a b f g bytes sent
    → Appends b c (take n (drop sent bytes)) → n ≤ length (drop sent bytes) → k ≡ g → Sending a c f k bytes (sent + n)
sending-more a b c f g k bytes sent n h app short kept = record {
  within = let w = h.within in let l = length-drop sent bytes in omega arith;
  appended = appended-next a b c bytes sent n h.appended app;
  kept = kept ∙ h.kept;
}
