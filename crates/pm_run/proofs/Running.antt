-- A run, piece after piece.
use Rattle.std.proofs.Common.{◌≡◌, ◌≤◌, ◌+◌, ℕ, List, [], ◌++◌, length, take, Option, None, refl, sym, ◌∙◌, ap, arith, append_assoc, length-append, take_all}
use Rattle.std.specs.Io.KnownBytes.{Consumes}
use Rattle.pm_model.specs.State.{State, opening}
use Rattle.pm_model.specs.Lines.{Event, cut, shape, events}
use Rattle.pm_model.specs.Solo.{replies}
use Rattle.pm_session.proofs.LineLaws.{events-shape-append}
use Rattle.pm_run.specs.Ended.{Running}
use Rattle.pm_run.specs.Coming.{coming, coming_past, ahead}
use Rattle.pm_run.specs.Wrote.{Wrote, WroteWhole, WrotePart}
use Rattle.pm_io.proofs.Known.{Appends-nil, Consumes-nil, Consumes-append}
use Rattle.pm_run.proofs.Writing.{Wrote-then, Wrote-then_part}

-- what was pushed comes before what is behind it
pub coming-pushed : (w v piece more : List ℕ) (n : ℕ) → v ≡ shape (w ++ take n piece) → n ≡ length piece → coming_past w piece more ≡ coming v more
coming-pushed w v piece more n is all =
    let t : take n piece ≡ piece = take_all n piece (omega arith) in
    let s : v ≡ shape (w ++ piece) = is ∙ ap (λ l. shape (w ++ l)) t in
    ap events (sym (append_assoc w piece more))
    ∙ sym (events-shape-append (w ++ piece) more)
    ∙ ap (λ l. events (l ++ more)) (sym s)

-- the same facts, of lines that are told in other words

pub Wrote-as : (a b : Option (List ℕ)) (S T : State) (f g h : List ℕ → List Event) → ((more : List ℕ) → f more ≡ g more) → Wrote a b S T g h → Wrote a b S T f h
Wrote-as a b S T f g h same w = record { lines = w.lines; appended = w.appended; state = w.state; told = λ more. same more ∙ w.told more }

pub WrotePart-as : (a b : Option (List ℕ)) (S : State) (f g : List ℕ → List Event) → ((more : List ℕ) → f more ≡ g more) → WrotePart a b (ahead S g) → WrotePart a b (ahead S f)
WrotePart-as a b S f g same w = record {
  written = w.written;
  appended = w.appended;
  told = λ more. let t = w.told more in record { next = t.next; rest = t.rest; split = ap (replies S) (same more) ∙ t.split };
}

-- before the first piece
pub running-none : (left taken : Option (List ℕ)) (S : State) (w o : List ℕ) → S ≡ opening → w ≡ [] → o ≡ [] → Running left left taken taken S w o 0
running-none left taken S w o begun waits none = rw (begun, waits, none) (record {
  bytes = [];
  consumed = Consumes-nil left;
  wrote = record { lines = []; appended = Appends-nil taken; state = refl; told = λ more. refl };
  drained = refl;
  sent = refl;
  count = refl;
})

-- the piece that was read now, before its lines are answered
pub record Reading (left rest taken grown : Option (List ℕ)) (S : State) (waiting piece : List ℕ) (limit : ℕ) : Type 0 where
  pub bytes : List ℕ
  pub consumed : Consumes left rest bytes
  pub wrote : Wrote taken grown opening S (coming bytes) (coming_past waiting piece)
  pub within : length bytes ≤ limit

-- the bytes read and a piece more
wrote-past : (taken grown : Option (List ℕ)) (S : State) (bytes w piece : List ℕ) → Wrote taken grown opening S (coming bytes) (coming w)
    → Wrote taken grown opening S (coming (bytes ++ piece)) (coming_past w piece)
wrote-past taken grown S bytes w piece h = record {
  lines = h.lines;
  appended = h.appended;
  state = h.state;
  told = λ more. ap events (append_assoc bytes piece more) ∙ h.told (piece ++ more);
}

-- a piece is read
pub reading-piece : (limit : ℕ) (left rest last taken grown : Option (List ℕ)) (S : State) (w o : List ℕ) (n : ℕ) (piece : List ℕ)
    → Running left rest taken grown S w o n → Consumes rest last piece → n + length piece ≤ limit
    → Reading left last taken grown S w piece limit
reading-piece limit left rest last taken grown S w o n piece h k short = record {
  bytes = h.bytes ++ piece;
  consumed = Consumes-append left rest last h.bytes piece h.consumed k;
  wrote = wrote-past taken grown S h.bytes w piece h.wrote;
  within = let l = length-append h.bytes piece in let q = h.count in omega arith;
}

-- its lines are answered
pub running-more : (left rest last taken grown more_grown : Option (List ℕ)) (S T : State) (w v o p : List ℕ) (n m : ℕ) (piece : List ℕ)
    → Running left rest taken grown S w o n → Consumes rest last piece
    → Wrote grown more_grown S T (coming_past w piece) (coming v) → cut v ≡ None → p ≡ [] → m ≡ n + length piece
    → Running left last taken more_grown T v p m
running-more left rest last taken grown more_grown S T w v o p n m piece h k wrote drained sent count = record {
  bytes = h.bytes ++ piece;
  consumed = Consumes-append left rest last h.bytes piece h.consumed k;
  wrote = Wrote-then taken grown more_grown opening S T (coming (h.bytes ++ piece)) (coming_past w piece) (coming v) (wrote-past taken grown S h.bytes w piece h.wrote) wrote;
  drained = drained;
  sent = sent;
  count = let l = length-append h.bytes piece in let q = h.count in omega arith;
}

-- its lines got whole replies, but not all of them
pub reading-whole : (limit : ℕ) (left rest taken grown now : Option (List ℕ)) (S T : State) (w piece : List ℕ) (h : Reading left rest taken grown S w piece limit)
    → WroteWhole grown now S T (coming_past w piece) → WroteWhole taken now opening T (coming h.bytes)
reading-whole limit left rest taken grown now S T w piece h whole =
    (whole.0, Wrote-then taken grown now opening S T (coming h.bytes) (coming_past w piece) whole.0 h.wrote whole.1)

-- a part of their replies was written
pub reading-part : (limit : ℕ) (left rest taken grown now : Option (List ℕ)) (S : State) (w piece : List ℕ) (h : Reading left rest taken grown S w piece limit)
    → WrotePart grown now (ahead S (coming_past w piece)) → WrotePart taken now (ahead opening (coming h.bytes))
reading-part limit left rest taken grown now S w piece h part =
    Wrote-then_part taken grown now opening S (coming h.bytes) (coming_past w piece) h.wrote part
