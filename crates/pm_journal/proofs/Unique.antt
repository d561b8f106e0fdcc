-- Bytes come to one thing at most: they stand for one list of notes, or are no journal, or are damaged at one place.
use Rattle.std.proofs.Common.{◌≡◌, ◌⊎◌, inl, inr, ℕ, zero, suc, ◌+◌, ◌-◌, ◌≤◌, ◌<◌, List, [], ◌∷◌, ◌++◌, length, get_or, take, drop, Some, Result, Ok, Err, refl, sym, ◌∙◌, ap, subst, arith, append_assoc, length-append, length-take, length-drop, take-append-drop}
use Rattle.std.specs.Prelude.{◌≢◌}
use Rattle.std.proofs.lemmas.List.{drop-append-le, drop_at, get_or-drop, take-take, take_at}
use Rattle.pm_model.specs.Asked.{asked}
use Rattle.pm_model.specs.Formed.{Each}
use Rattle.pm_journal.specs.Heads.{HasStood, IsNoJournal}
use Rattle.pm_journal.specs.Images.{Stands}
use Rattle.pm_journal.specs.Notes.{IsNote, IsRequest, Note, header, line_length, note_of, notes_in, size}
use Rattle.pm_journal.specs.Opens.{ComesTo, IsUnopened, Tells}
use Rattle.pm_journal.specs.Reading.{AsksNothing, IsBroken, IsDamagedAt, IsWhole}
use Rattle.pm_journal.specs.declared.opened.OpenError.{OpenError}
use Rattle.pm_journal.specs.declared.opened.OpenError.TheVariants as open_fault
use Rattle.pm_journal.proofs.Bodies.{size_before, note_before}
use Rattle.pm_journal.proofs.Records.{Begins, begins}
use Rattle.pm_journal.proofs.Standing.{front_room}

-- ---- a record that counts, and a place where none stands

abbrev Counts : List ℕ → Type 0
Counts bytes = IsWhole (note_of (drop 1 bytes)) bytes

-- the first of some records, which a byte follows
first_counts : (k g : ℕ) (bytes tail : List ℕ) (notes : List Note) → notes_in (suc k) (suc g ∷ bytes) ≡ Some notes → Each IsNote notes → 0 < length tail → Counts (suc g ∷ bytes ++ tail)
first_counts k g bytes tail notes is lines more =
    let first = begins k g bytes notes is in
    let size_is : size (bytes ++ tail) ≡ size bytes = size_before bytes tail (omega (arith, first.whole)) in
    let note_is : note_of (bytes ++ tail) ≡ note_of bytes = note_before bytes tail first.whole in
    let all : Each IsNote (note_of bytes ∷ first.more) = subst (Each IsNote) first.notes_are lines in
    let line : IsNote (note_of bytes) = all.0 in
    let len : length (note_of bytes).line ≡ line_length bytes =
    omega (arith, length-take (line_length bytes) (drop 16 bytes), length-drop 16 bytes, first.whole) in
    record {
      gate = λ (shut : suc g ≡ 0). absurd (omega (arith, shut));
      whole = omega (arith, size_is, first.whole, length-append bytes tail, more);
      short = omega (arith, size_is, len, line.short);
      note_is = refl;
      asks = subst (λ (n : Note). IsRequest (asked n.line).what) (sym note_is) line.asks;
    }

not_broken : (note : Note) (bytes : List ℕ) → IsWhole note bytes → IsBroken bytes → ⊥
not_broken note bytes whole (inl none) = absurd (omega (arith, none, whole.whole))
not_broken note bytes whole (inr (gate, inl short)) = absurd (omega (arith, short, whole.whole))
not_broken note bytes whole (inr (gate, inr (inl long))) = absurd (omega (arith, long, whole.short))
not_broken note bytes whole (inr (gate, inr (inr nothing))) = nothing.none (subst (λ (n : Note). IsRequest (asked n.line).what) whole.note_is whole.asks)

shut_gate : (bytes : List ℕ) → get_or bytes 0 1 ≡ 0 → get_or bytes 0 0 ≡ 0
shut_gate [] shut = refl
shut_gate (b ∷ bytes) shut = shut

-- behind so many records some bytes at which reading ends
record Stops (content : List ℕ) (k : ℕ) (front tail : List ℕ) (notes : List Note) : Type 0 where
  pub split : drop 8 content ≡ front ++ tail
  pub records : notes_in k front ≡ Some notes
  pub lines : Each IsNote notes
  pub few : k ≤ 262144
  pub there : 0 < length tail
  pub stops : (get_or tail 0 1 ≡ 0) ⊎ (IsBroken tail ⊎ ((k ≡ 262144) × (get_or tail 0 0 ≢ 0)))

not_counted : (content : List ℕ) (k : ℕ) (front tail : List ℕ) (notes : List Note) → Stops content k front tail notes → k < 262144 → Counts tail → ⊥
not_counted content k front tail notes stop few counts = of stop.stops where
  of : (get_or tail 0 1 ≡ 0) ⊎ (IsBroken tail ⊎ ((k ≡ 262144) × (get_or tail 0 0 ≢ 0))) → ⊥
  of (inl shut) = counts.gate (shut_gate tail shut)
  of (inr (inl broken)) = not_broken (note_of (drop 1 tail)) tail counts broken
  of (inr (inr full)) = absurd (omega (arith, full.0, few))

-- ---- two ways to read the same bytes

-- they go as far as each other; or where the one ends, a record stands that counts
abbrev Meet : ℕ → List ℕ → List ℕ → ℕ → List ℕ → List ℕ → Type 0
Meet k front tail m front2 tail2 = ((k ≡ m) × (length front ≡ length front2)) ⊎ (((k < m) × Counts tail) ⊎ ((m < k) × Counts tail2))

once_more : (k m g h : ℕ) (f tail f2 tail2 : List ℕ) → size f ≡ size f2 → size f ≤ length f → size f2 ≤ length f2
    → Meet k (drop (size f) f) tail m (drop (size f2) f2) tail2 → Meet (suc k) (suc g ∷ f) tail (suc m) (suc h ∷ f2) tail2
once_more k m g h f tail f2 tail2 sizes whole whole2 (inl (same, long)) =
    inl (ap suc same, omega (arith, long, sizes, whole, whole2, length-drop (size f) f, length-drop (size f2) f2))
once_more k m g h f tail f2 tail2 sizes whole whole2 (inr (inl (less, counts))) = inr (inl (omega (arith, less), counts))
once_more k m g h f tail f2 tail2 sizes whole whole2 (inr (inr (less, counts))) = inr (inr (omega (arith, less), counts))

meet : (k : ℕ) (front tail : List ℕ) (notes : List Note) (m : ℕ) (front2 tail2 : List ℕ) (notes2 : List Note)
    → notes_in k front ≡ Some notes → notes_in m front2 ≡ Some notes2 → Each IsNote notes → Each IsNote notes2 → 0 < length tail → 0 < length tail2
    → front ++ tail ≡ front2 ++ tail2 → Meet k front tail m front2 tail2
meet zero (x ∷ f) tail notes m f2 tail2 notes2 one two lines lines2 there there2 same = absurd (cc (one))
meet zero [] tail notes zero (x ∷ f2) tail2 notes2 one two lines lines2 there there2 same = absurd (cc (two))
meet zero [] tail notes zero [] tail2 notes2 one two lines lines2 there there2 same = inl (refl, refl)
meet zero [] tail notes (suc m) [] tail2 notes2 one two lines lines2 there there2 same = absurd (cc (two))
meet zero [] tail notes (suc m) (zero ∷ f2) tail2 notes2 one two lines lines2 there there2 same = absurd (cc (two))
meet zero [] tail notes (suc m) (suc h ∷ f2) tail2 notes2 one two lines lines2 there there2 same =
    inr (inl (omega arith, subst Counts (sym same) (first_counts m h f2 tail2 notes2 two lines2 there2)))
meet (suc k) [] tail notes m f2 tail2 notes2 one two lines lines2 there there2 same = absurd (cc (one))
meet (suc k) (zero ∷ f) tail notes m f2 tail2 notes2 one two lines lines2 there there2 same = absurd (cc (one))
meet (suc k) (suc g ∷ f) tail notes zero (x ∷ f2) tail2 notes2 one two lines lines2 there there2 same = absurd (cc (two))
meet (suc k) (suc g ∷ f) tail notes zero [] tail2 notes2 one two lines lines2 there there2 same =
    inr (inr (omega arith, subst Counts same (first_counts k g f tail notes one lines there)))
meet (suc k) (suc g ∷ f) tail notes (suc m) [] tail2 notes2 one two lines lines2 there there2 same = absurd (cc (two))
meet (suc k) (suc g ∷ f) tail notes (suc m) (zero ∷ f2) tail2 notes2 one two lines lines2 there there2 same = absurd (cc (two))
meet (suc k) (suc g ∷ f) tail notes (suc m) (suc h ∷ f2) tail2 notes2 one two lines lines2 there there2 same =
    let a = begins k g f notes one in
    let b = begins m h f2 notes2 two in
    let tails : f ++ tail ≡ f2 ++ tail2 = ap (λ (l : List ℕ). drop 1 l) same in
    let size_a = size_before f tail (omega (arith, a.whole)) in
    let size_b = size_before f2 tail2 (omega (arith, b.whole)) in
    let sizes : size f ≡ size f2 = sym size_a ∙ ap size tails ∙ size_b in
    let rest_a = drop-append-le (size f) f tail a.whole in
    let rest_b = drop-append-le (size f2) f2 tail2 b.whole in
    let rests : drop (size f) f ++ tail ≡ drop (size f2) f2 ++ tail2 =
    sym rest_a ∙ ap (λ (l : List ℕ). drop (size f) l) tails ∙ ap (λ (n : ℕ). drop n (f2 ++ tail2)) sizes ∙ rest_b in
    let all : Each IsNote (note_of f ∷ a.more) = subst (Each IsNote) a.notes_are lines in
    let all2 : Each IsNote (note_of f2 ∷ b.more) = subst (Each IsNote) b.notes_are lines2 in
    once_more k m g h f tail f2 tail2 sizes a.whole b.whole (meet k (drop (size f) f) tail a.more m (drop (size f2) f2) tail2 b.more a.rest b.rest all.1 all2.1 there there2 rests)

record AreSame (k : ℕ) (front tail : List ℕ) (notes : List Note) (m : ℕ) (front2 tail2 : List ℕ) (notes2 : List Note) : Type 0 where
  pub fronts : front ≡ front2
  pub tails : tail ≡ tail2
  pub notes_same : notes ≡ notes2

one_stop : (content : List ℕ) (k : ℕ) (front tail : List ℕ) (notes : List Note) (m : ℕ) (front2 tail2 : List ℕ) (notes2 : List Note)
    → Stops content k front tail notes → Stops content m front2 tail2 notes2 → AreSame k front tail notes m front2 tail2 notes2
one_stop content k front tail notes m front2 tail2 notes2 one two =
    of (meet k front tail notes m front2 tail2 notes2 one.records two.records one.lines two.lines one.there two.there same)
  where
    same : front ++ tail ≡ front2 ++ tail2
    same = sym one.split ∙ two.split

    of : Meet k front tail m front2 tail2 → AreSame k front tail notes m front2 tail2 notes2
    of (inl (count, long)) =
        let fronts : front ≡ front2 =
        sym (take_at front tail (length front) refl) ∙ ap (λ (l : List ℕ). take (length front) l) same ∙ take_at front2 tail2 (length front) (sym long) in
        let tails : tail ≡ tail2 =
        sym (drop_at front tail (length front) refl) ∙ ap (λ (l : List ℕ). drop (length front) l) same ∙ drop_at front2 tail2 (length front) (sym long) in
        let told : Some notes ≡ Some notes2 =
        sym one.records ∙ ap (λ (l : List ℕ). notes_in k l) fronts ∙ ap (λ (n : ℕ). notes_in n front2) count ∙ two.records in
        record { fronts = fronts; tails = tails; notes_same = cc (told) }
    of (inr (inl (less, counts))) = absurd (not_counted content k front tail notes one (omega (arith, less, two.few)) counts)
    of (inr (inr (less, counts))) = absurd (not_counted content m front2 tail2 notes2 two (omega (arith, less, one.few)) counts)

-- ---- what the bytes come to

stands_stops : (notes : List Note) (c : List ℕ) (s : Stands notes c) → Stops c (length notes) s.front (0 ∷ s.rest) notes
stands_stops notes c s = record {
  split = ap (λ (l : List ℕ). drop 8 l) s.split;
  records = s.records;
  lines = s.lines;
  few = s.few;
  there = omega arith;
  stops = inl refl;
}

gate_at : (at : ℕ) (c : List ℕ) → get_or (drop at c) 0 0 ≡ get_or c at 0
gate_at at c = get_or-drop at c 0 0 ∙ (let m : at + 0 ≡ at = omega arith in ap (λ (n : ℕ). get_or c n 0) m)

damaged_stops : (at : ℕ) (c : List ℕ) (d : IsDamagedAt at c) → Stops c d.count (drop 8 (take at c)) (drop at c) d.notes
damaged_stops at c d = record {
  split =
      ap (λ (l : List ℕ). drop 8 l) (sym (take-append-drop at c))
      ∙ drop-append-le 8 (take at c) (drop at c) (omega (arith, front_room at d.count (take at c) d.notes d.front, d.front.long));
  records = d.front.records;
  lines = d.front.lines;
  few = d.front.few;
  there = omega (arith, d.there, length-drop at c);
  stops = inr (of d.wrong);
}
  where
    of : IsBroken (drop at c) ⊎ ((d.count ≡ 262144) × (get_or c at 0 ≢ 0)) → IsBroken (drop at c) ⊎ ((d.count ≡ 262144) × (get_or (drop at c) 0 0 ≢ 0))
    of (inl broken) = inl broken
    of (inr full) = inr (full.0, λ shut. full.1 (sym (gate_at at c) ∙ shut))

-- some gate stands there that isn't closed
damaged_gate : (at : ℕ) (c : List ℕ) → IsDamagedAt at c → get_or (drop at c) 0 0 ≢ 0
damaged_gate at c d = of d.wrong where
  of : IsBroken (drop at c) ⊎ ((d.count ≡ 262144) × (get_or c at 0 ≢ 0)) → get_or (drop at c) 0 0 ≢ 0
  of (inl (inl none)) = absurd (omega (arith, none, d.there, length-drop at c))
  of (inl (inr broken)) = broken.0
  of (inr full) = λ shut. full.1 (sym (gate_at at c) ∙ shut)

-- a header, and a byte behind it
record IsBegun (c : List ℕ) : Type 0 where
  pub header_is : take 8 c ≡ header
  pub longer : 8 < length c

stands_begun : (notes : List Note) (c : List ℕ) → Stands notes c → IsBegun c
stands_begun notes c s = record {
  header_is = ap (λ (l : List ℕ). take 8 l) s.split;
  longer = omega (arith, ap (λ (l : List ℕ). length (drop 8 l)) s.split, length-drop 8 c, length-append s.front (0 ∷ s.rest));
}

damaged_begun : (at : ℕ) (c : List ℕ) → IsDamagedAt at c → IsBegun c
damaged_begun at c d =
    let room = front_room at d.count (take at c) d.notes d.front in
    record { header_is = sym (take-take 8 at c room) ∙ d.front.header; longer = omega (arith, room, d.there) }

pub none_stand : (notes : List Note) (c : List ℕ) → Stands notes c → c ≡ [] → ⊥
none_stand notes c s is = absurd (omega (arith, ap length is, (stands_begun notes c s).longer))

not_empty : (c : List ℕ) → IsBegun c → c ≡ [] → ⊥
not_empty c begun is = absurd (omega (arith, ap length is, begun.longer))

is_journal : (c : List ℕ) → IsBegun c → IsNoJournal c → ⊥
is_journal c begun (some, inl short) = absurd (omega (arith, short, begun.longer))
is_journal c begun (some, inr other) = other begun.header_is

not_damaged : (notes : List Note) (at : ℕ) (c : List ℕ) → Stands notes c → IsDamagedAt at c → ⊥
not_damaged notes at c s d =
    let same = one_stop c (length notes) s.front (0 ∷ s.rest) notes d.count (drop 8 (take at c)) (drop at c) d.notes (stands_stops notes c s) (damaged_stops at c d) in
    damaged_gate at c d (ap (λ (l : List ℕ). get_or l 0 0) (sym same.tails))

pub one_at_most : (notes notes2 : List Note) (bytes : List ℕ) → Stands notes bytes → Stands notes2 bytes → notes ≡ notes2
one_at_most notes notes2 bytes one two =
    (one_stop bytes (length notes) one.front (0 ∷ one.rest) notes (length notes2) two.front (0 ∷ two.rest) notes2 (stands_stops notes bytes one) (stands_stops notes2 bytes two)).notes_same

one_place : (a b : ℕ) (c : List ℕ) → IsDamagedAt a c → IsDamagedAt b c → a ≡ b
one_place a b c one two =
    let same =
    one_stop c one.count (drop 8 (take a c)) (drop a c) one.notes two.count (drop 8 (take b c)) (drop b c) two.notes (damaged_stops a c one) (damaged_stops b c two) in
    omega (
      arith,
      ap length same.fronts,
      length-drop 8 (take a c),
      length-drop 8 (take b c),
      one.front.long,
      two.front.long,
      front_room a one.count (take a c) one.notes one.front,
      front_room b two.count (take b c) two.notes two.front,
    )

pub one_outcome : (c : List ℕ) (a b : Result (List Note) OpenError) → ComesTo c a → ComesTo c b → a ≡ b
one_outcome c (Ok ns) (Ok ms) (inl one) (inl two) = ap (λ (l : List Note). Ok l) (one_at_most ns ms c one two)
one_outcome c (Ok ns) (Ok ms) (inl one) (inr two) = absurd (not_empty c (stands_begun ns c one) two.0)
one_outcome c (Ok ns) (Ok ms) (inr one) (inl two) = absurd (not_empty c (stands_begun ms c two) one.0)
one_outcome c (Ok ns) (Ok ms) (inr one) (inr two) = ap (λ (l : List Note). Ok l) (one.1 ∙ sym two.1)
one_outcome c (Ok ns) (Err open_fault.NotJournal) (inl one) two = absurd (is_journal c (stands_begun ns c one) two)
one_outcome c (Ok ns) (Err open_fault.NotJournal) (inr one) two = absurd (two.0 one.0)
one_outcome c (Ok ns) (Err (open_fault.Damaged at)) (inl one) two = absurd (not_damaged ns at c one two)
one_outcome c (Ok ns) (Err (open_fault.Damaged at)) (inr one) two = absurd (not_empty c (damaged_begun at c two) one.0)
one_outcome c (Ok ns) (Err open_fault.Failed) one two = absurd two
one_outcome c (Ok ns) (Err open_fault.Memory) one two = absurd two
one_outcome c (Err open_fault.NotJournal) (Ok ms) one (inl two) = absurd (is_journal c (stands_begun ms c two) one)
one_outcome c (Err open_fault.NotJournal) (Ok ms) one (inr two) = absurd (one.0 two.0)
one_outcome c (Err open_fault.NotJournal) (Err open_fault.NotJournal) one two = refl
one_outcome c (Err open_fault.NotJournal) (Err (open_fault.Damaged at)) one two = absurd (is_journal c (damaged_begun at c two) one)
one_outcome c (Err open_fault.NotJournal) (Err open_fault.Failed) one two = absurd two
one_outcome c (Err open_fault.NotJournal) (Err open_fault.Memory) one two = absurd two
one_outcome c (Err (open_fault.Damaged at)) (Ok ms) one (inl two) = absurd (not_damaged ms at c two one)
one_outcome c (Err (open_fault.Damaged at)) (Ok ms) one (inr two) = absurd (not_empty c (damaged_begun at c one) two.0)
one_outcome c (Err (open_fault.Damaged at)) (Err open_fault.NotJournal) one two = absurd (is_journal c (damaged_begun at c one) two)
one_outcome c (Err (open_fault.Damaged a)) (Err (open_fault.Damaged b)) one two =
    ap (λ (n : ℕ). let r : Result (List Note) OpenError = Err (open_fault.Damaged n) in r) (one_place a b c one two)
one_outcome c (Err (open_fault.Damaged at)) (Err open_fault.Failed) one two = absurd two
one_outcome c (Err (open_fault.Damaged at)) (Err open_fault.Memory) one two = absurd two
one_outcome c (Err open_fault.Failed) out one two = absurd one
one_outcome c (Err open_fault.Memory) out one two = absurd one

-- what is told of bytes that were not opened
pub unopened_tells : (old new : List ℕ) (why : OpenError) (out : Result (List Note) OpenError) → IsUnopened old new why → ComesTo old out → Tells out why
unopened_tells old new open_fault.NotJournal out is comes = one_outcome old out (Err open_fault.NotJournal) comes is.0
unopened_tells old new (open_fault.Damaged at) out is comes = one_outcome old out (Err (open_fault.Damaged at)) comes is.0
unopened_tells old new open_fault.Failed out is comes = tt
unopened_tells old new open_fault.Memory out is comes = tt
