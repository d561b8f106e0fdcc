-- A pass over the rows, which writes the row of each element that is contained in x.
use Rattle.std.specs.Prelude.{◌≡◌, ◌<◌, ◌≤◌, ◌==◌, ◌*◌, ℕ, Bool, true, false, List, Option, None, Some}
use Rattle.pm_model.specs.Containment.{contained}
use Rattle.pm_reach.specs.Words.{in_row}
use Rattle.pm_reach.specs.Rows.{place_at, has, below, count_of, inside, most}
use Rattle.pm_reach.specs.Table.{Table, IsReady}

-- in what isn't one of these numbers, nothing is contained but itself
abbrev pub AreContainers : List (List (Option (List ℕ))) → List ℕ → Type 0
AreContainers rows containers = (p y : ℕ) → below rows p y ≡ true → in_row containers y ≡ false → p ≡ y

-- in what is contained in x, numbers rise from containers to what is in them
abbrev pub IsRising : List (List (Option (List ℕ))) → ℕ → Type 0
IsRising rows x = (z w : ℕ) → below rows z x ≡ true → below rows w x ≡ true → below rows z w ≡ true → w ≤ z

-- no container of z that is contained in x has a higher number
abbrev pub IsLast : List (ℕ × ℕ) → List (List (Option (List ℕ))) → ℕ → ℕ → Type 0
IsLast assigned rows x z = (w : ℕ) → below rows w x ≡ true → contained assigned z w ≡ true → w ≤ z

-- the number is the one that is given, where one is
abbrev pub is_given : Option ℕ → ℕ → Bool
is_given None q = false
is_given (Some y) q = q == y

-- the numbers of all that is contained in x are from `low` on and below `high`
pub record Spans (rows : List (List (Option (List ℕ)))) (x low high : ℕ) : Type 0 where
  pub from : (p : ℕ) → below rows p x ≡ true → low ≤ p
  pub to : (p : ℕ) → below rows p x ≡ true → p < high
  pub order : low ≤ high
  pub few : high ≤ most

-- these rows have what `made` says, the others are as they were, and so many were written
pub record Rewrites (x : ℕ) (made : ℕ → ℕ → Bool) (old new : List (List (Option (List ℕ)))) (written : ℕ) : Type 0 where
  pub within : (p : ℕ) → below old p x ≡ true → (q : ℕ) → below new p q ≡ made p q
  pub others : (p : ℕ) → below old p x ≡ false → place_at new p ≡ place_at old p
  pub live : (p : ℕ) → has new p ≡ has old p
  pub count : written ≡ inside old x

-- the numbers below z were passed; the rows still to be written are ready for n words
pub record Passed (x n : ℕ) (made : ℕ → ℕ → Bool) (old now : Table) (z written : ℕ) : Type 0 where
  pub within : (p : ℕ) → p < z → below old.rows p x ≡ true → (q : ℕ) → below now.rows p q ≡ made p q
  pub others : (p : ℕ) → below old.rows p x ≡ false → place_at now.rows p ≡ place_at old.rows p
  pub rest : (p : ℕ) → z ≤ p → place_at now.rows p ≡ place_at old.rows p
  pub live : (p : ℕ) → has now.rows p ≡ has old.rows p
  pub ready : (p : ℕ) → z ≤ p → below old.rows p x ≡ true → IsReady now p n
  pub count : written ≡ count_of (λ p. below old.rows p x) z

-- while the row of z is made anew, the rows of smaller numbers and those of what isn't contained in x tell the
-- containment that these assignments make
pub record TellSoFar (assigned : List (ℕ × ℕ)) (rows : List (List (Option (List ℕ)))) (x z : ℕ) : Type 0 where
  pub before : (w q : ℕ) → has rows w ≡ true → w < z → below rows w q ≡ contained assigned w q
  pub outside : (w q : ℕ) → has rows w ≡ true → below rows w x ≡ false → below rows w q ≡ contained assigned w q

-- all that the rows have is below 64 n
abbrev pub AreWithin : ℕ → List (List (Option (List ℕ))) → Type 0
AreWithin n rows = (p q : ℕ) → below rows p q ≡ true → q < 64 * n
