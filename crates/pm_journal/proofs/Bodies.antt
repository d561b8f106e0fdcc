-- A body tells its size and its note, also where more stands behind it.
use Rattle.std.proofs.Common.{◌≡◌, ℕ, ◌+◌, ◌-◌, ◌<◌, ◌≤◌, ◌^◌, List, [], ◌∷◌, ◌++◌, length, take, drop, refl, sym, ◌∙◌, ap, subst, arith, append_assoc, length-append}
use Rattle.std.proofs.lemmas.List.{take-append-le, drop-append-le, take_at, drop_at, take_all, length-drop}
use Rattle.std.proofs.lemmas.Nat.{from_be_bytes-to_be_bytes_4, from_be_bytes-to_be_bytes_8}
use Rattle.std.specs.Int.{w32, w64, from_be_bytes, to_be_bytes}
use Rattle.pm_journal.specs.Notes.{Note, body, line_length, size, note_of}
use Rattle.pm_journal.specs.Images.{IsBody}

-- ---- with more behind it

pub size_before : (b more : List ℕ) → 4 ≤ length b → size (b ++ more) ≡ size b
size_before b more long = ap (λ (l : List ℕ). 16 + from_be_bytes w32 l) (take-append-le 4 b more long)

within : (n k : ℕ) (b more : List ℕ) → k + n ≤ length b → take n (drop k (b ++ more)) ≡ take n (drop k b)
within n k b more le =
    ap (λ (l : List ℕ). take n l) (drop-append-le k b more (omega (arith, le)))
    ∙ take-append-le n (drop k b) more (omega (arith, le, length-drop k b))

pub note_before : (b more : List ℕ) → size b ≤ length b → note_of (b ++ more) ≡ note_of b
note_before b more long =
    let len : line_length (b ++ more) ≡ line_length b = ap (λ (l : List ℕ). from_be_bytes w32 l) (take-append-le 4 b more (omega (arith, long))) in
    let seat : take 4 (drop 4 (b ++ more)) ≡ take 4 (drop 4 b) = within 4 4 b more (omega (arith, long)) in
    let nth : take 8 (drop 8 (b ++ more)) ≡ take 8 (drop 8 b) = within 8 8 b more (omega (arith, long)) in
    let line : take (line_length (b ++ more)) (drop 16 (b ++ more)) ≡ take (line_length b) (drop 16 b) =
    ap (λ (n : ℕ). take n (drop 16 (b ++ more))) len ∙ within (line_length b) 16 b more (omega (arith, long)) in
    (λ i. record { seat = from_be_bytes w32 (seat i); nth = from_be_bytes w64 (nth i); line = line i })
