-- What the bytes of a journal stand for, step by step.
use Rattle.std.proofs.Common.{◌≡◌, ◌⊎◌, inl, inr, ℕ, zero, suc, ◌+◌, ◌-◌, ◌<◌, ◌≤◌, List, [], ◌∷◌, ◌++◌, length, get_or, take, drop, Option, None, Some, refl, sym, ◌∙◌, ap, subst, arith, append_assoc, length-append, take-append-drop, length-take}
use Rattle.std.proofs.lemmas.Bool.{cases_eq}
use Rattle.std.proofs.lemmas.List.{drop_more, get_or_past, take_at, drop_at, drop-append-le, take-append-le, take_all, get_or_at, length-drop}
use Rattle.std.specs.Prelude.{◌≢◌}
use Rattle.pm_disk.specs.Disks.{Each, Holds}
use Rattle.pm_journal.specs.Notes.{Note, header, note_of, notes_in}
use Rattle.pm_journal.specs.Images.{Stands, Rests, Doubts, IsBody, IsFront}
use Rattle.pm_journal.specs.Journals.{found, kept_in, StandsFor}
use Rattle.pm_journal.proofs.Records.{one_more, as_many, lines_more}
use Rattle.pm_journal.proofs.Shapes.{shorter}

-- ---- a gate at its place

pub gate_there : (e : ℕ) (bytes : List ℕ) → get_or bytes e 1 ≡ 0 → e < length bytes
gate_there e [] shut = absurd (omega (arith, shut))
gate_there zero (b ∷ bytes) shut = omega arith
gate_there (suc e) (b ∷ bytes) shut = omega (arith, gate_there e bytes shut)

pub at_gate : (e : ℕ) (bytes : List ℕ) (x : ℕ) → e < length bytes → bytes ≡ take e bytes ++ get_or bytes e x ∷ drop (e + 1) bytes
at_gate e bytes x lt = sym (take-append-drop e bytes) ∙ ap (λ (l : List ℕ). take e bytes ++ l) (drop_more bytes e x lt)

behind_header : (e k : ℕ) (begin : List ℕ) (notes : List Note) → IsFront e k begin notes → begin ≡ header ++ drop 8 begin
behind_header e k begin notes front = sym (take-append-drop 8 begin) ∙ ap (λ (l : List ℕ). l ++ drop 8 begin) front.header

-- ---- what is left stands for

records_of : (e k : ℕ) (begin : List ℕ) (notes : List Note) → IsFront e k begin notes → notes_in (length notes) (drop 8 begin) ≡ Some notes
records_of e k begin notes front = ap (λ (n : ℕ). notes_in n (drop 8 begin)) (as_many k (drop 8 begin) notes front.records) ∙ front.records

pub rests_stands : (e k : ℕ) (begin : List ℕ) (notes : List Note) (bytes : List ℕ) → IsFront e k begin notes → Rests e begin bytes → Stands notes bytes
rests_stands e k begin notes bytes front rests = record {
  front = drop 8 begin;
  rest = drop (e + 1) bytes;
  split =
      at_gate e bytes 1 (gate_there e bytes rests.shut)
      ∙ ap (λ (l : List ℕ). l ++ get_or bytes e 1 ∷ drop (e + 1) bytes) (rests.begins ∙ behind_header e k begin notes front)
      ∙ ap (λ (g : ℕ). (header ++ drop 8 begin) ++ g ∷ drop (e + 1) bytes) rests.shut
      ∙ append_assoc header (drop 8 begin) (0 ∷ drop (e + 1) bytes);
  records = records_of e k begin notes front;
  lines = front.lines;
  few = omega (arith, as_many k (drop 8 begin) notes front.records, front.few);
}

gate_stands : (e k : ℕ) (begin b : List ℕ) (notes : List Note) (rest : List ℕ) (g : ℕ) → IsFront e k begin notes → IsBody b → k < 262144 → (bytes : List ℕ)
    → bytes ≡ (header ++ drop 8 begin) ++ g ∷ b ++ 0 ∷ rest → StandsFor notes (Some (note_of b)) bytes
gate_stands e k begin b notes rest zero front body room bytes is = inl (record {
  front = drop 8 begin;
  rest = b ++ 0 ∷ rest;
  split = is ∙ append_assoc (header ++ drop 8 begin) (0 ∷ b) (0 ∷ rest);
  records = records_of e k begin notes front;
  lines = front.lines;
  few = omega (arith, as_many k (drop 8 begin) notes front.records, front.few);
})
gate_stands e k begin b notes rest (suc g) front body room bytes is =
    let count : length (notes ++ note_of b ∷ []) ≡ suc k = omega (arith, length-append notes (note_of b ∷ []), as_many k (drop 8 begin) notes front.records) in
    inr (record {
      front = drop 8 begin ++ suc g ∷ b;
      rest = rest;
      split =
          is ∙ ap (λ (l : List ℕ). l ++ 0 ∷ rest) (append_assoc header (drop 8 begin) (suc g ∷ b));
      records = ap (λ (n : ℕ). notes_in n (drop 8 begin ++ suc g ∷ b)) count ∙ one_more k g (drop 8 begin) b notes front.records body;
      lines = lines_more notes (note_of b) front.lines body.note;
      few = omega (arith, count, room);
    })

pub doubts_stands : (e k : ℕ) (begin b : List ℕ) (notes : List Note) (bytes : List ℕ) → IsFront e k begin notes → IsBody b → k < 262144 → Doubts e begin b bytes → StandsFor notes (Some (note_of b)) bytes
doubts_stands e k begin b notes bytes front body room doubts =
    let rest = drop (length b + 1) (drop (e + 1) bytes) in
    let behind : drop (e + 1) bytes ≡ b ++ 0 ∷ rest =
    sym (take-append-drop (length b + 1) (drop (e + 1) bytes)) ∙ ap (λ (l : List ℕ). l ++ rest) doubts.body ∙ append_assoc b (0 ∷ []) rest in
    gate_stands e k begin b notes rest (get_or bytes e 1) front body room bytes (
    at_gate e bytes 1 doubts.gate
    ∙ ap (λ (l : List ℕ). l ++ get_or bytes e 1 ∷ drop (e + 1) bytes) (doubts.begins ∙ behind_header e k begin notes front)
    ∙ ap (λ (l : List ℕ). (header ++ drop 8 begin) ++ get_or bytes e 1 ∷ l) behind
    ∙ sym (append_assoc (header ++ drop 8 begin) (get_or bytes e 1 ∷ b) (0 ∷ rest)))

-- ---- the steps

-- a piece was written behind a closed gate
pub staged : (e : ℕ) (begin b old new : List ℕ) → Rests e begin old → length begin ≡ e → Holds old (e + 1) (b ++ 0 ∷ []) new → Doubts e begin b new
staged e begin b old new rests long holds =
    let there = gate_there e old rests.shut in
    let size : length (take (e + 1) old) ≡ e + 1 = omega (arith, length-take (e + 1) old, there) in
    let tail = drop (e + 1 + length (b ++ 0 ∷ [])) old in
    let whole = holds ∙ append_assoc (take (e + 1) old) (b ++ 0 ∷ []) tail in
    let behind : drop (e + 1) new ≡ (b ++ 0 ∷ []) ++ tail =
    ap (λ (l : List ℕ). drop (e + 1) l) whole ∙ drop_at (take (e + 1) old) ((b ++ 0 ∷ []) ++ tail) (e + 1) size in
    let front : take (e + 1) new ≡ take (e + 1) old =
    ap (λ (l : List ℕ). take (e + 1) l) whole ∙ take_at (take (e + 1) old) ((b ++ 0 ∷ []) ++ tail) (e + 1) size in
    record {
      begins = shorter e (e + 1) new old (omega arith) front ∙ rests.begins;
      gate = omega (arith, ap length front, size, length-take (e + 1) new);
      body = ap (λ (l : List ℕ). take (length b + 1) l) behind ∙ take_at (b ++ 0 ∷ []) tail (length b + 1) (length-append b (0 ∷ []));
    }

-- a gate was written: all else stays
pub turned : (e g : ℕ) (begin b old new : List ℕ) → Doubts e begin b old → length begin ≡ e → Holds old e (g ∷ []) new → new ≡ begin ++ g ∷ drop (e + 1) old
turned e g begin b old new doubts long holds = holds ∙ ap (λ (l : List ℕ). l ++ (g ∷ []) ++ drop (e + 1) old) doubts.begins ∙ append_assoc begin (g ∷ []) (drop (e + 1) old)

-- a closed gate
pub turned_shut : (e : ℕ) (begin b old new : List ℕ) → Doubts e begin b old → length begin ≡ e → Holds old e (0 ∷ []) new → Rests e begin new
turned_shut e begin b old new doubts long holds =
    let is = turned e 0 begin b old new doubts long holds in
    record {
      begins = ap (λ (l : List ℕ). take e l) is ∙ take_at begin (0 ∷ drop (e + 1) old) e long;
      shut = ap (λ (l : List ℕ). get_or l e 1) is ∙ get_or_at begin 0 (drop (e + 1) old) 1 e long;
    }

-- an open gate: the record counts, and a closed gate stands behind it
pub turned_open : (e : ℕ) (begin b old new : List ℕ) → Doubts e begin b old → length begin ≡ e → Holds old e (1 ∷ []) new → Rests (e + (length b + 1)) (begin ++ 1 ∷ b) new
turned_open e begin b old new doubts long holds =
    let is = turned e 1 begin b old new doubts long holds in
    let rest = drop (length b + 1) (drop (e + 1) old) in
    let behind : drop (e + 1) old ≡ b ++ 0 ∷ rest =
    sym (take-append-drop (length b + 1) (drop (e + 1) old)) ∙ ap (λ (l : List ℕ). l ++ rest) doubts.body ∙ append_assoc b (0 ∷ []) rest in
    let all : new ≡ (begin ++ 1 ∷ b) ++ 0 ∷ rest = is ∙ ap (λ (l : List ℕ). begin ++ 1 ∷ l) behind ∙ sym (append_assoc begin (1 ∷ b) (0 ∷ rest)) in
    let size : length (begin ++ 1 ∷ b) ≡ e + (length b + 1) = omega (arith, long, length-append begin (1 ∷ b)) in
    record {
      begins = ap (λ (l : List ℕ). take (e + (length b + 1)) l) all ∙ take_at (begin ++ 1 ∷ b) (0 ∷ rest) (e + (length b + 1)) size;
      shut = ap (λ (l : List ℕ). get_or l (e + (length b + 1)) 1) all ∙ get_or_at (begin ++ 1 ∷ b) 0 rest 1 (e + (length b + 1)) size;
    }

-- the front with that record
pub front_more : (g e k : ℕ) (begin b : List ℕ) (notes : List Note) → 8 ≤ e → IsFront e k begin notes → IsBody b → k < 262144 → IsFront (e + (length b + 1)) (suc k) (begin ++ suc g ∷ b) (notes ++ note_of b ∷ [])
front_more g e k begin b notes header_there front body room = record {
  long = omega (arith, front.long, length-append begin (suc g ∷ b));
  header = take-append-le 8 begin (suc g ∷ b) (omega (arith, header_there, front.long)) ∙ front.header;
  records = ap (notes_in (suc k)) (drop-append-le 8 begin (suc g ∷ b) (omega (arith, header_there, front.long))) ∙ one_more k g (drop 8 begin) b notes front.records body;
  lines = lines_more notes (note_of b) front.lines body.note;
  few = omega (arith, room);
}

pub front_room : (e k : ℕ) (begin : List ℕ) (notes : List Note) → IsFront e k begin notes → 8 ≤ e
front_room e k begin notes front = omega (arith, ap length front.header, length-take 8 begin, front.long)

-- the notes of a front are those that are found in it
pub front_kept : (e k : ℕ) (begin : List ℕ) (notes : List Note) → IsFront e k begin notes → kept_in k begin ≡ notes
front_kept e k begin notes front = ap found front.records
