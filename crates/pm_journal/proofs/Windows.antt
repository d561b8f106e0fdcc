-- What is found in a window is found in all that is there.
use Rattle.std.proofs.Common.{◌≡◌, ◌⊎◌, inl, inr, ⊎_elim, ℕ, zero, suc, ◌+◌, ◌-◌, ◌≤◌, ◌<◌, min, List, [], ◌∷◌, ◌++◌, map, length, get_or, take, drop, refl, sym, ◌∙◌, ap, subst, arith, length-append, length-take, length-drop, take-append-drop, append_assoc}
use Rattle.std.specs.Prelude.{◌≢◌}
use Rattle.std.proofs.lemmas.List.{map-append, take_all, take_min, get_or-take, get_or-drop, drop-append-le, drop_more, drop-drop}
use Rattle.pm_model.specs.Asked.{asked}
use Rattle.pm_model.specs.declared.requests.Entry.{Entry}
use Rattle.pm_journal.specs.Journals.{kept_in}
use Rattle.pm_journal.specs.Notes.{Note, IsNote, IsRequest, entry_of, header, notes_in, line_length, size, note_of}
use Rattle.pm_journal.specs.Images.{IsBody, IsFront}
use Rattle.pm_journal.specs.Reading.{AreRead, IsWhole, IsBroken, AsksNothing}
use Rattle.pm_journal.specs.Founds.{IsFound, IsFoundWhole}
use Rattle.pm_journal.specs.declared.written.Found.{Found}
use Rattle.pm_journal.specs.declared.written.Found.TheVariants.{Closed, Broken, Whole}
use Rattle.pm_journal.proofs.Bodies.{size_before, note_before}
use Rattle.pm_journal.proofs.Filling.{take_then}
use Rattle.pm_journal.proofs.Standing.{front_kept, front_more, front_room}

le_or_lt : (a b : ℕ) → (a ≤ b) ⊎ (b < a)
le_or_lt zero b = inl (omega arith)
le_or_lt (suc a) zero = inr (omega arith)
le_or_lt (suc a) (suc b) = ⊎_elim (λ (h : a ≤ b). inl (omega (arith, h))) (λ (h : b < a). inr (omega (arith, h))) (le_or_lt a b)

module _ (rest : List ℕ) (long : 8210 < length rest) where
  abbrev w : List ℕ
  w = take 8210 rest

  abbrev more : List ℕ
  more = drop 8210 rest

  size_w : length w ≡ 8210
  size_w = omega (arith, length-take 8210 rest, long)

  behind : drop 1 rest ≡ drop 1 w ++ more
  behind = ap (λ (l : List ℕ). drop 1 l) (sym (take-append-drop 8210 rest)) ∙ drop-append-le 1 w more (omega (arith, size_w))

  behind_size : length (drop 1 w) ≡ 8209
  behind_size = omega (arith, length-drop 1 w, size_w)

  sizes : size (drop 1 rest) ≡ size (drop 1 w)
  sizes = ap size behind ∙ size_before (drop 1 w) more (omega (arith, behind_size))

  gates : (x : ℕ) → get_or w 0 x ≡ get_or rest 0 x
  gates x = get_or-take 8210 rest 0 x (omega arith)

  notes_same : size (drop 1 w) + 1 < 8210 → note_of (drop 1 rest) ≡ note_of (drop 1 w)
  notes_same whole = ap note_of behind ∙ note_before (drop 1 w) more (omega (arith, whole, behind_size))

  wider : (x : Found) → IsFound w x → IsFound rest x
  wider Closed found = sym (gates 1) ∙ found
  wider (Whole entry len) found =
      let same : note_of (drop 1 rest) ≡ note_of (drop 1 w) = notes_same (omega (arith, found.whole.whole, size_w)) in
      record {
        whole = record {
          gate = λ is. found.whole.gate (gates 0 ∙ is);
          whole = omega (arith, sizes, found.whole.whole, size_w, long);
          short = omega (arith, sizes, found.whole.short);
          note_is = refl;
          asks = subst (λ (n : Note). IsRequest (asked n.line).what) (sym same) found.whole.asks;
        };
        entry_is = found.entry_is ∙ ap entry_of (sym same);
        len_is = omega (arith, found.len_is, sizes);
      }
  wider Broken (inl none) = absurd (omega (arith, none, size_w))
  wider Broken (inr (gate, inl short)) = inr ((λ is. gate (gates 0 ∙ is)), inr (inl (omega (arith, sizes, short, size_w))))
  wider Broken (inr (gate, inr (inl big))) = inr ((λ is. gate (gates 0 ∙ is)), inr (inl (omega (arith, sizes, big))))
  wider Broken (inr (gate, inr (inr nothing))) =
      let same : note_of (drop 1 rest) ≡ note_of (drop 1 w) = notes_same (omega (arith, nothing.whole, size_w)) in
      inr (
        (λ is. gate (gates 0 ∙ is)),
        inr (inr (record {
          whole = omega (arith, sizes, nothing.whole, size_w, long);
          short = omega (arith, sizes, nothing.short);
          none = λ asks. nothing.none (subst (λ (n : Note). IsRequest (asked n.line).what) same asks);
        })),
      )

pub found_wider : (rest : List ℕ) (x : Found) → IsFound (take 8210 rest) x → IsFound rest x
found_wider rest x found =
    ⊎_elim (λ (short : length rest ≤ 8210). subst (λ (l : List ℕ). IsFound l x) (take_all 8210 rest short) found) (λ (long : 8210 < length rest). wider rest long x found) (le_or_lt (length rest) 8210)

-- what was read into a window
pub in_window : (content piece : List ℕ) (at n : ℕ) (x : Found) → take n piece ≡ take n (drop at content) → n ≡ min 8210 (length content - at) → IsFound (take n piece) x → IsFound (drop at content) x
in_window content piece at n x same count found =
    let size : length content - at ≡ length (drop at content) = sym (length-drop at content) in
    let all : take n (drop at content) ≡ take 8210 (drop at content) = ap (λ (m : ℕ). take m (drop at content)) (count ∙ ap (min 8210) size) ∙ take_min 8210 (drop at content) in
    found_wider (drop at content) x (subst (λ (l : List ℕ). IsFound l x) (same ∙ all) found)

-- ---- one record more

opened : (at : ℕ) (content : List ℕ) → get_or (drop at content) 0 0 ≢ 0 → (g : ℕ) × (get_or content at 0 ≡ suc g)
opened at content gate = of (get_or content at 0) refl where
  here : get_or (drop at content) 0 0 ≡ get_or content at 0
  here = get_or-drop at content 0 0 ∙ (let m : at + 0 ≡ at = omega arith in ap (λ (n : ℕ). get_or content n 0) m)

  of : (g : ℕ) → get_or content at 0 ≡ g → (h : ℕ) × (get_or content at 0 ≡ suc h)
  of zero is = absurd (gate (here ∙ is))
  of (suc g) is = (g, is)

whole_line : (note : Note) (bytes : List ℕ) → IsWhole note bytes → length note.line ≡ line_length (drop 1 bytes)
whole_line note bytes is =
    let body = drop 1 bytes in
    let total : length bytes ≡ length body + 1 = omega (arith, length-drop 1 bytes, is.whole) in
    omega (arith, ap (λ (n : Note). length n.line) is.note_is, length-take (line_length body) (drop 16 body), length-drop 16 body, is.whole, total)

pub reads_more : (at k : ℕ) (content : List ℕ) (notes : List Note) (note : Note) → IsFront at k (take at content) notes → IsWhole note (drop at content) → k < 262144
    → IsFront (at + (17 + length note.line)) (k + 1) (take (at + (17 + length note.line)) content) (notes ++ note ∷ []) × (length note.line ≤ 8192)
reads_more at k content notes note front is room =
    let body = drop 1 (drop at content) in
    let total : length (drop at content) ≡ length body + 1 = omega (arith, length-drop 1 (drop at content), is.whole) in
    let fits : size body ≤ length body = omega (arith, is.whole, total) in
    let b = take (size body) body in
    let more = drop (size body) body in
    let b_size : length b ≡ size body = omega (arith, length-take (size body) body, fits) in
    let split : body ≡ b ++ more = sym (take-append-drop (size body) body) in
    let size_is : size body ≡ size b = ap size split ∙ size_before b more (omega (arith, b_size)) in
    let note_is : note ≡ note_of b = is.note_is ∙ ap note_of split ∙ note_before b more (omega (arith, size_is, b_size)) in
    let line_is : length note.line ≡ line_length body = whole_line note (drop at content) is in
    let line : IsNote note = record { short = omega (arith, line_is, is.short); asks = is.asks } in
    let is_body : IsBody b = record { whole = omega (arith, size_is, b_size); note = subst IsNote note_is line } in
    let end : at + (17 + length note.line) ≡ at + (length b + 1) = omega (arith, line_is, b_size) in
    let count : k + 1 ≡ suc k = omega arith in
    let gate = opened at content is.gate in
    let there : at < length content = omega (arith, total, length-drop at content) in
    let begin_is : take (at + (length b + 1)) content ≡ take at content ++ suc gate.0 ∷ b =
    take_then at (length b + 1) content
    ∙ ap (λ (l : List ℕ). take at content ++ take (length b + 1) l) (drop_more content at 0 there)
    ∙ ap (λ (x : ℕ). take at content ++ take (length b + 1) (x ∷ drop (at + 1) content)) gate.1
    ∙ ap (λ (n : ℕ). take at content ++ take n (suc gate.0 ∷ drop (at + 1) content)) (let m : length b + 1 ≡ suc (length b) = omega arith in m)
    ∙ ap (λ (l : List ℕ). take at content ++ suc gate.0 ∷ take (length b) l) (sym (drop-drop 1 at content))
    ∙ ap (λ (n : ℕ). take at content ++ suc gate.0 ∷ take n body) b_size in
    let next = front_more gate.0 at k (take at content) b notes (front_room at k (take at content) notes front) front is_body room in (
      subst (λ (n : ℕ). IsFront (at + (17 + length note.line)) n (take (at + (17 + length note.line)) content) (notes ++ note ∷ [])) (sym count)
          (subst (λ (n : ℕ). IsFront n (suc k) (take n content) (notes ++ note ∷ [])) (sym end)
          (subst (λ (x : Note). IsFront (at + (length b + 1)) (suc k) (take (at + (length b + 1)) content) (notes ++ x ∷ [])) (sym note_is)
          (subst (λ (l : List ℕ). IsFront (at + (length b + 1)) (suc k) l (notes ++ note_of b ∷ [])) (sym begin_is) next))),
      omega (arith, line_is, is.short),
    )

pub reads_entry : (at k : ℕ) (content : List ℕ) (entries : List Entry) (entry : Entry) (len : ℕ) → AreRead at k content entries → IsFoundWhole (drop at content) entry len → k < 262144
    → AreRead (at + (17 + len)) (k + 1) content (entries ++ entry ∷ [])
reads_entry at k content entries entry len read found room =
    let note = note_of (drop 1 (drop at content)) in
    let notes = kept_in k (take at content) in
    let line : length note.line ≡ len = whole_line note (drop at content) found.whole ∙ sym found.len_is in
    let next = subst (λ (n : ℕ). IsFront (at + (17 + n)) (k + 1) (take (at + (17 + n)) content) (notes ++ note ∷ [])) line (reads_more at k content notes note read.front found.whole room).0 in
    let end = at + (17 + len) in
    let kept : kept_in (k + 1) (take end content) ≡ notes ++ note ∷ [] = front_kept end (k + 1) (take end content) (notes ++ note ∷ []) next in
    record {
      front = subst (λ (ns : List Note). IsFront end (k + 1) (take end content) ns) (sym kept) next;
      entries_are =
          ap (λ (es : List Entry). es ++ entry ∷ []) read.entries_are
          ∙ ap (λ (e : Entry). map entry_of notes ++ e ∷ []) found.entry_is
          ∙ sym (map-append entry_of notes (note ∷ []))
          ∙ ap (map entry_of) (sym kept);
    }

-- the same where all that is behind that is cut off
pub read_same : (at k : ℕ) (old new : List ℕ) (entries : List Entry) → take at new ≡ take at old → AreRead at k old entries → AreRead at k new entries
read_same at k old new entries same read = record {
  front = subst (λ (l : List ℕ). IsFront at k l (kept_in k l)) (sym same) read.front;
  entries_are = subst (λ (l : List ℕ). entries ≡ map entry_of (kept_in k l)) (sym same) read.entries_are;
}

-- before any record
pub reads_none : (content : List ℕ) → take 8 content ≡ header → IsFront 8 0 (take 8 content) []
reads_none content is = record {
  long = ap length is;
  header = ap (λ (l : List ℕ). take 8 l) is;
  records = ap (λ (l : List ℕ). notes_in 0 (drop 8 l)) is;
  lines = tt;
  few = omega arith;
}

pub none_kept : (content : List ℕ) → take 8 content ≡ header → kept_in 0 (take 8 content) ≡ []
none_kept content is = front_kept 8 0 (take 8 content) [] (reads_none content is)

pub read_none : (content : List ℕ) → take 8 content ≡ header → AreRead 8 0 content []
read_none content is = record {
  front = subst (λ (ns : List Note). IsFront 8 0 (take 8 content) ns) (sym (none_kept content is)) (reads_none content is);
  entries_are = ap (map entry_of) (sym (none_kept content is));
}
