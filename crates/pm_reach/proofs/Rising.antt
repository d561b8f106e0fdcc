-- Numbers rise from containers to what is in them.
use Rattle.std.proofs.Common.{◌≡◌, ◌<◌, ◌≤◌, ◌+◌, ℕ, true, false, List, Option, sym, ◌∙◌, inl, inr, arith}
use Rattle.std.proofs.lemmas.Bool.{cases_lt, cases_eq, true≢false}
use Rattle.pm_reach.specs.Words.{in_row}
use Rattle.pm_reach.specs.Rows.{below}

-- so they do in what is contained in x and has a number below z
abbrev pub RisesBelow : List (List (Option (List ℕ))) → ℕ → ℕ → Type 0
RisesBelow rows x z = (p w : ℕ) → p < z → below rows p x ≡ true → below rows w x ≡ true → below rows p w ≡ true → w ≤ p

-- z, too, where what it has above its number isn't contained in x, and those from there to `next` are passed
pub rises_more : (rows : List (List (Option (List ℕ)))) (x : ℕ) (inside words : List ℕ) (z next : ℕ) → RisesBelow rows x z →
    ((p : ℕ) → in_row inside p ≡ below rows p x) → ((q : ℕ) → in_row words q ≡ below rows z q) →
    ((q : ℕ) → z < q → in_row words q ≡ true → in_row inside q ≡ false) → ((p : ℕ) → z + 1 ≤ p → p < next → in_row inside p ≡ false) →
    RisesBelow rows x next
rises_more rows x inside words z next rises same row apart none p w short h k up = elim (cases_lt p z) [
  | inl l ↦ rises p w l h k up
  | inr l ↦ elim (cases_eq p z) [
    | inl e ↦ elim (cases_lt z w) [
      | inl above ↦ absurd (true≢false (sym k ∙ sym (same w) ∙ apart w above (row w ∙ rw e at up)))
      | inr most ↦ omega (arith, most, e)
    ]
    | inr ne ↦ absurd (true≢false (sym h ∙ sym (same p) ∙ none p (omega (arith, l, ne)) short))
  ]
]
