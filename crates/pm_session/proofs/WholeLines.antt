-- All bytes are whole lines and the rest of one.
use Rattle.std.proofs.Common.{◌≡◌, ℕ, List, [], ◌∷◌, ◌++◌, map, All, Bool, true, false, ◌==◌, refl, sym, ◌∙◌, ap, append_assoc, append-nil}
use Rattle.std.proofs.lemmas.Bool.{eqb-true}
use Rattle.std.proofs.lemmas.List.Elements.{All-nil, All-cons, All-head, All-tail}
use Rattle.pm_model.specs.Lines.{event_of, events, fit, shape}
use Rattle.pm_session.specs.Cuts.{HasNoFeed, AreLines, joined}
use Rattle.pm_session.proofs.Feeds.{HasNoFeed-nil, HasNoFeed-cons}
use Rattle.pm_session.proofs.Kept.{shape_from-line, events_from-line}
use Rattle.pm_session.proofs.FirstLine.{events-plain}

-- the whole lines of bytes, and the rest
record Parted (bytes : List ℕ) : Type 0 where
  lines : List (List ℕ)
  rest : List ℕ
  are : AreLines bytes lines rest

Parted-feed : (c : ℕ) (cs : List ℕ) → (c == 10) ≡ true → Parted cs → Parted (c ∷ cs)
Parted-feed c cs feed p =
    let e = p.are.split in
    let is = eqb-true c 10 feed in
    record {
      lines = [] ∷ p.lines;
      rest = p.rest;
      are = record { split = rw is (ap (λ l. 10 ∷ l) e); plain = All-cons HasNoFeed [] p.lines HasNoFeed-nil p.are.plain; begun = p.are.begun };
    }

Parted-begin : (c : ℕ) (cs : List ℕ) (lines : List (List ℕ)) (rest : List ℕ) → (c == 10) ≡ false → AreLines cs lines rest → Parted (c ∷ cs)
Parted-begin c cs [] rest apart are =
    record {
      lines = [];
      rest = c ∷ rest;
      are = record { split = ap (λ l. c ∷ l) are.split; plain = All-nil HasNoFeed; begun = HasNoFeed-cons c rest apart are.begun };
    }
Parted-begin c cs (line ∷ lines) rest apart are =
    let first = All-head HasNoFeed line lines are.plain in
    let others = All-tail HasNoFeed line lines are.plain in
    record {
      lines = (c ∷ line) ∷ lines;
      rest = rest;
      are = record {
        split = ap (λ l. c ∷ l) are.split;
        plain = All-cons HasNoFeed (c ∷ line) lines (HasNoFeed-cons c line apart first) others;
        begun = are.begun;
      };
    }

Parted-cons : (b : Bool) (c : ℕ) (cs : List ℕ) → (c == 10) ≡ b → Parted cs → Parted (c ∷ cs)
Parted-cons true c cs test p = Parted-feed c cs test p
Parted-cons false c cs test p = Parted-begin c cs p.lines p.rest test p.are

parted : (bytes : List ℕ) → Parted bytes
parted [] = record { lines = []; rest = []; are = record { split = refl; plain = All-nil HasNoFeed; begun = HasNoFeed-nil } }
parted (c ∷ cs) = Parted-cons (c == 10) c cs refl (parted cs)

-- there are such lines and such a rest
pub AreLines-some : (bytes : List ℕ) → (lines : List (List ℕ)) × (rest : List ℕ) × AreLines bytes lines rest
AreLines-some bytes = let p = parted bytes in (p.lines, p.rest, p.are)

events-joined : (lines : List (List ℕ)) (rest : List ℕ) → All HasNoFeed lines → HasNoFeed rest → events (joined lines ++ rest) ≡ map event_of lines
events-joined [] rest plain begun = events-plain rest begun
events-joined (line ∷ lines) rest plain begun =
    let first = All-head HasNoFeed line lines plain in
    let others = All-tail HasNoFeed line lines plain in
    let next = events-joined lines rest others begun in
    let split : joined (line ∷ lines) ++ rest ≡ line ++ 10 ∷ (joined lines ++ rest) =
    append_assoc (line ++ 10 ∷ []) (joined lines) rest ∙ append_assoc line (10 ∷ []) (joined lines ++ rest) in
    ap events split ∙ events_from-line [] line (10 ∷ (joined lines ++ rest)) first ∙ ap (λ es. event_of line ∷ es) next

-- the events of bytes are those of their whole lines
pub events-lines : (bytes : List ℕ) (lines : List (List ℕ)) (rest : List ℕ) → AreLines bytes lines rest → events bytes ≡ map event_of lines
events-lines bytes lines rest are = ap events are.split ∙ events-joined lines rest are.plain are.begun

shape-joined : (lines : List (List ℕ)) (rest : List ℕ) → All HasNoFeed lines → HasNoFeed rest → shape (joined lines ++ rest) ≡ joined (map fit lines) ++ fit rest
shape-joined [] rest plain begun = rw (append-nil rest) at (shape_from-line [] rest [] begun)
shape-joined (line ∷ lines) rest plain begun =
    let first = All-head HasNoFeed line lines plain in
    let others = All-tail HasNoFeed line lines plain in
    let next = shape-joined lines rest others begun in
    let split : joined (line ∷ lines) ++ rest ≡ line ++ 10 ∷ (joined lines ++ rest) =
    append_assoc (line ++ 10 ∷ []) (joined lines) rest ∙ append_assoc line (10 ∷ []) (joined lines ++ rest) in
    let kept : shape (line ++ 10 ∷ (joined lines ++ rest)) ≡ fit line ++ 10 ∷ shape (joined lines ++ rest) =
    shape_from-line [] line (10 ∷ (joined lines ++ rest)) first in
    ap shape split ∙ kept ∙ ap (λ l. fit line ++ 10 ∷ l) next
    ∙ sym (append_assoc (fit line) (10 ∷ []) (joined (map fit lines) ++ fit rest))
    ∙ sym (append_assoc (fit line ++ 10 ∷ []) (joined (map fit lines)) (fit rest))

-- what is kept of bytes is what is kept of their lines and of the rest
pub shape-lines : (bytes : List ℕ) (lines : List (List ℕ)) (rest : List ℕ) → AreLines bytes lines rest → shape bytes ≡ joined (map fit lines) ++ fit rest
shape-lines bytes lines rest are = ap shape are.split ∙ shape-joined lines rest are.plain are.begun
