-- The bytes of a record tell its note.
use Rattle.std.proofs.Common.{◌≡◌, ◌⊎◌, inl, inr, ⊎_elim, ℕ, ◌+◌, ◌-◌, ◌<◌, ◌≤◌, ◌^◌, List, [], ◌∷◌, ◌++◌, length, take, drop, Option, None, Some, refl, sym, ◌∙◌, ap, subst, arith, length-append}
use Rattle.std.proofs.lemmas.List.{take_at, take_all}
use Rattle.std.proofs.lemmas.Nat.{from_be_bytes-to_be_bytes_4, from_be_bytes-to_be_bytes_8}
use Rattle.std.specs.Int.{w32, w64, from_be_bytes, to_be_bytes}
use Rattle.pm_journal.specs.Notes.{Note, IsLine, IsNote, body, size, note_of}
use Rattle.pm_journal.specs.Images.{Stands, IsBody}
use Rattle.pm_journal.specs.Journals.{IsPiece, noted, StandsFor, StandsForAny, IsOneMore, MayBeLost}

pub record Fits (n : Note) : Type 0 where
  pub seat : n.seat < 2 ^ 32
  pub nth : n.nth < 2 ^ 64
  pub line : IsLine n.line

body_length : (n : Note) → length (body n) ≡ 16 + length n.line
body_length n = omega (
  arith,
  length-append (to_be_bytes w32 (length n.line) ++ to_be_bytes w32 n.seat ++ to_be_bytes w64 n.nth) n.line,
  length-append (to_be_bytes w32 (length n.line) ++ to_be_bytes w32 n.seat) (to_be_bytes w64 n.nth),
  length-append (to_be_bytes w32 (length n.line)) (to_be_bytes w32 n.seat),
  four (length n.line),
  four n.seat,
  eight n.nth,
)
  where
    four : (k : ℕ) → length (to_be_bytes w32 k) ≡ 4
    four k = refl

    eight : (k : ℕ) → length (to_be_bytes w64 k) ≡ 8
    eight k = refl

length_told : (n : Note) → Fits n → from_be_bytes w32 (take 4 (body n)) ≡ length n.line
length_told n fits = from_be_bytes-to_be_bytes_4 (length n.line) (omega (arith, fits.line.short))

pub body_note : (n : Note) → Fits n → note_of (body n) ≡ n
body_note n fits =
    let seat : from_be_bytes w32 (take 4 (drop 4 (body n))) ≡ n.seat = from_be_bytes-to_be_bytes_4 n.seat fits.seat in
    let nth : from_be_bytes w64 (take 8 (drop 8 (body n))) ≡ n.nth = from_be_bytes-to_be_bytes_8 n.nth fits.nth in
    let line : take (from_be_bytes w32 (take 4 (body n))) (drop 16 (body n)) ≡ n.line =
    ap (λ (k : ℕ). take k n.line) (length_told n fits) ∙ take_all (length n.line) n.line (omega arith) in
    λ i. record { seat = seat i; nth = nth i; line = line i }

pub body_is : (n : Note) → Fits n → IsBody (body n)
body_is n fits = record { whole = omega (arith, length_told n fits, body_length n); note = subst IsNote (sym (body_note n fits)) fits.line }

pub record IsPieceOf (n : Note) (piece : List ℕ) : Type 0 where
  pub is : IsPiece piece
  pub note : noted piece ≡ n
  pub short : length piece ≤ 8209

pub piece_of_note : (n : Note) (piece : List ℕ) → Fits n → piece ≡ body n ++ 0 ∷ [] → IsPieceOf n piece
piece_of_note n piece fits is =
    let size : length piece ≡ length (body n) + 1 = ap length is ∙ length-append (body n) (0 ∷ []) in
    let front : take (length piece - 1) piece ≡ body n =
    ap (λ (l : List ℕ). take (length piece - 1) l) is ∙ take_at (body n) (0 ∷ []) (length piece - 1) (omega (arith, size)) in
    record {
      is = record { split = is ∙ ap (λ (l : List ℕ). l ++ 0 ∷ []) (sym front); body = subst IsBody (sym front) (body_is n fits) };
      note = ap note_of front ∙ body_note n fits;
      short = omega (arith, size, body_length n, fits.line.short);
    }

-- ---- what a call leaves

pub for_any : (kept : List Note) (lost : Option Note) (note : Note) (c : List ℕ) → StandsFor kept lost c → StandsForAny kept lost note c
for_any kept lost note c stands = inl stands

pub for_this : (kept : List Note) (lost : Option Note) (note : Note) (c : List ℕ) → StandsFor kept (Some note) c → StandsForAny kept lost note c
for_this kept lost note c (inl stands) = inl (inl stands)
for_this kept lost note c (inr more) = inr more
