-- A record that was split into its parts.
use Rattle.std.proofs.Common.{◌≡◌, ◌⊎◌, inl, inr, ℕ, ◌+◌, ◌-◌, ◌<◌, ◌≤◌, List, length, take, drop, get_or, Option, None, Some, refl, sym, ◌∙◌, ap, subst, arith, length-drop}
use Rattle.std.specs.Prelude.{◌≢◌, MatchOption}
use Rattle.std.specs.Int.{w32, w64, from_be_bytes}
use Rattle.std.proofs.lemmas.List.{drop-drop}
use Rattle.pm_model.specs.Asked.{asked}
use Rattle.pm_model.specs.declared.requests.Entry.{Entry}
use Rattle.pm_model.specs.declared.requests.Request.{Request}
use Rattle.pm_model.specs.declared.requests.What.{What}
use Rattle.pm_model.specs.declared.requests.What.TheVariants as what
use Rattle.pm_journal.specs.Notes.{Note, IsRequest, entry_of, line_length, note_of, request_in, size}
use Rattle.pm_journal.specs.Reading.{AsksNothing, IsBroken, IsWhole}
use Rattle.pm_journal.specs.Founds.{IsFoundWhole}

pub none_of : (P : Type 0) (Q : Request → Type 0) (o : Option Request) → ((r : Request) → o ≡ Some r → ⊥) → MatchOption o P Q → P
none_of P Q None not m = m
none_of P Q (Some r) not m = absurd (not r refl)

pub some_of : (P : Type 0) (Q : Request → Type 0) (o : Option Request) (r : Request) → o ≡ Some r → MatchOption o P Q → Q r
some_of P Q None r is m = absurd (cc (is))
some_of P Q (Some s) r is m = let same : s ≡ r = cc (is) in subst Q same m

-- the parts: behind the gate the length, the seat, the number, and the line with what is behind it
pub record AreParts (bytes len_bytes seat nth line rest : List ℕ) (len : ℕ) : Type 0 where
  pub gate : get_or bytes 0 0 ≢ 0
  pub long : 17 ≤ length (drop 1 bytes)
  pub len_bytes_are : len_bytes ≡ take 4 (drop 1 bytes)
  pub seat_is : seat ≡ take 4 (drop 4 (drop 1 bytes))
  pub nth_is : nth ≡ take 8 (drop 4 (drop 4 (drop 1 bytes)))
  pub rest_is : rest ≡ drop 8 (drop 4 (drop 4 (drop 1 bytes)))
  pub len_is : len ≡ from_be_bytes w32 len_bytes
  pub line_is : line ≡ take len rest
  pub short : len ≤ 8192
  pub more : len < length rest

module _ (bytes len_bytes seat nth line rest : List ℕ) (len : ℕ) (parts : AreParts bytes len_bytes seat nth line rest len) where
  len_told : len ≡ line_length (drop 1 bytes)
  len_told = parts.len_is ∙ ap (from_be_bytes w32) parts.len_bytes_are

  behind_twice : drop 4 (drop 4 (drop 1 bytes)) ≡ drop 8 (drop 1 bytes)
  behind_twice = drop-drop 4 4 (drop 1 bytes)

  rest_told : rest ≡ drop 16 (drop 1 bytes)
  rest_told = parts.rest_is ∙ ap (λ (l : List ℕ). drop 8 l) behind_twice ∙ drop-drop 8 8 (drop 1 bytes)

  line_told : line ≡ (note_of (drop 1 bytes)).line
  line_told = parts.line_is ∙ ap (λ (n : ℕ). take n rest) len_told ∙ ap (λ (l : List ℕ). take (line_length (drop 1 bytes)) l) rest_told

  whole_told : size (drop 1 bytes) + 1 < length bytes
  whole_told = omega (arith, len_told, parts.more, ap length rest_told, length-drop 16 (drop 1 bytes), length-drop 1 bytes, parts.long)

  short_told : line_length (drop 1 bytes) ≤ 8192
  short_told = omega (arith, len_told, parts.short)

  pub asks_nothing : (IsRequest (asked line).what → ⊥) → IsBroken bytes
  asks_nothing none = inr (
    parts.gate,
    inr (inr (record {
      whole = whole_told;
      short = short_told;
      none = λ asks. none (subst (λ (l : List ℕ). IsRequest (asked l).what) (sym line_told) asks);
    })),
  )

  pub asks_one : (r : Request) → (asked line).what ≡ what.Request r
      → IsFoundWhole bytes (record { seat = from_be_bytes w32 seat; nth = from_be_bytes w64 nth; request = r }) len
  asks_one r is =
      let here : (asked (note_of (drop 1 bytes)).line).what ≡ what.Request r = ap (λ (l : List ℕ). (asked l).what) (sym line_told) ∙ is in
      let seat_told : from_be_bytes w32 seat ≡ (note_of (drop 1 bytes)).seat = ap (from_be_bytes w32) parts.seat_is in
      let nth_told : from_be_bytes w64 nth ≡ (note_of (drop 1 bytes)).nth =
      ap (from_be_bytes w64) (parts.nth_is ∙ ap (λ (l : List ℕ). take 8 l) behind_twice) in
      let request_told : r ≡ request_in (asked (note_of (drop 1 bytes)).line).what = ap request_in (sym here) in
      record {
        whole = record { gate = parts.gate; whole = whole_told; short = short_told; note_is = refl; asks = subst IsRequest (sym here) tt };
        entry_is = (λ i. record { seat = seat_told i; nth = nth_told i; request = request_told i });
        len_is = len_told;
      }
