-- What a user is given at each element itself, by number: the rights, and a mark where there is some grant.
use Rattle.std.specs.Prelude.{◌≡◌, ◌*◌, ◌/◌, ◌%◌, ◌≤◌, ◌<◌, ℕ, Bool, List, ◌==◌, Option, None, Some, true, false, All, length, take, slice_index}
use Rattle.std.specs.Int.{bit_at}
use Rattle.std.specs.List.{list_any}
use Rattle.std.specs.Option.{ForSome}
use Rattle.pm_model.specs.RightSet.{has_right}
use Rattle.pm_model.specs.declared.rights.Grant.{Grant}
use Rattle.pm_model.specs.declared.rights.Grantee.{Grantee}
use Rattle.pm_given.specs.Given.{given, is_at}

-- bit i of word k is the number 64 k + i
abbrev pub is_marked : List ℕ → ℕ → Bool
is_marked marks p = bit_at (slice_index marks (p / 64)) (p % 64) == 1

-- the right stands at p; or, where none is named, p is marked
abbrev pub tells : List ℕ → List ℕ → Option ℕ → ℕ → Bool
tells own marks None p = is_marked marks p
tells own marks (Some r) p = has_right (slice_index own p) r

-- these grants, element by element, and no others
abbrev pub AreTold : List Grant → List ℕ → List ℕ → Type 0
AreTold L own marks = (q : Option ℕ) (p : ℕ) → tells own marks q p ≡ list_any (is_at q p) L

-- the number is of a word at one of these places
abbrev pub is_placed : List ℕ → ℕ → Bool
is_placed places p = list_any (λ k. p / 64 == k) places

-- places of words, among which are those of all that aren't empty
pub record AreNoted (places marks : List ℕ) : Type 0 where
  pub within : All (λ k. k < length marks) places
  pub full : (p : ℕ) → is_marked marks p ≡ true → is_placed places p ≡ true

-- of whom it tells, the rights and the marks, in how many words there may be some, and room for places, of which the first
-- so many are those of words with marks; and the rights that were found on elements, those that are known
pub record Table : Type 0 where
  pub user : Option ℕ
  pub own : List ℕ
  pub marks : List ℕ
  pub used : ℕ
  pub places : List ℕ
  pub full : ℕ
  pub found : List ℕ
  pub known : List ℕ

-- it tells what the user of whom it tells is given by these associations, by this test of containment
abbrev pub IsRight : (ℕ → ℕ → Bool) → List Grantee → Table → Type 0
IsRight below gs T = ForSome T.user (λ u. AreTold (given below u gs) T.own T.marks)

-- the words from the n-th on are empty
abbrev pub AreEmptyFrom : ℕ → List ℕ → Type 0
AreEmptyFrom n words = (k : ℕ) → n ≤ k → slice_index words k ≡ 0

-- where no mark is, no right is
abbrev pub AreMarked : List ℕ → List ℕ → Type 0
AreMarked own marks = (r p : ℕ) → tells own marks None p ≡ false → tells own marks (Some r) p ≡ false

pub record IsTable (T : Table) : Type 0 where
  pub long : length T.own ≡ 64 * length T.marks
  pub few : length T.marks ≤ 67108864
  pub within : T.used ≤ length T.marks
  pub rest : AreEmptyFrom T.used T.marks
  pub marked : AreMarked T.own T.marks
  pub room : length T.marks ≤ length T.places
  pub fits : T.full ≤ length T.places
  pub noted : AreNoted (take T.full T.places) T.marks
  pub found : length T.found ≡ 64 * length T.marks
  pub known : length T.known ≡ length T.marks

-- each is on an element with a number below n
abbrev pub AreWithin : ℕ → List Grant → Type 0
AreWithin n hs = All (λ (h : Grant). h.at < n) hs

abbrev pub AllWithin : ℕ → List Grantee → Type 0
AllWithin n gs = All (λ (g : Grantee). AreWithin n g.grants) gs
