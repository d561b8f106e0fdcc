-- The project's own: the rule of the hand-off. It has two ends, one that gives and one that takes; what was given is what was taken and then what waits, front first.
use Rattle.std.specs.Prelude.{◌≡◌, ℕ, Bool, true, List, ◌++◌}
use mathlib.Core.Option.{some}
use mathlib.Core.List.{IsPrefix}
use lib.ListN.{get_elem?}
use Rattle.pm_handoff.specs.declared.rule.Known.{Known}

abbrev pub known : Bool → Bool → List ℕ → List ℕ → Known
known gives takes given taken = record { gives = gives; takes = takes; given = given; taken = taken }

-- what one end knows is so: one end alone gives, and knows all that was given; one alone takes, and knows all that was taken; the rest that an end knows came first
pub record IsTrueOf (giver taker : ℕ) (given taken : List ℕ) (port : ℕ) (v : Known) : Type 0 where
  pub gives : v.gives ≡ true → (port ≡ giver) × (v.given ≡ given)
  pub takes : v.takes ≡ true → (port ≡ taker) × (v.taken ≡ taken)
  pub given_first : IsPrefix v.given given
  pub taken_first : IsPrefix v.taken taken

pub record IsInOrder (waiting : List ℕ) (views : List Known) : Type 0 where
  pub giver : ℕ
  pub taker : ℕ
  pub given : List ℕ
  pub taken : List ℕ
  pub in_order : given ≡ taken ++ waiting
  pub each : (port : ℕ) (v : Known) → get_elem? views port ≡ some v → IsTrueOf giver taker given taken port v

-- at one moment these waited, where the end has given all of `given` and knows that all of `known_taken` was taken
abbrev pub GiverSees : List ℕ → List ℕ → List ℕ → Type 0
GiverSees given known_taken waiting = (taken : List ℕ) × IsPrefix known_taken taken × (given ≡ taken ++ waiting)

-- the same, where the end has taken all of `taken` and knows that all of `known_given` was given
abbrev pub TakerSees : List ℕ → List ℕ → List ℕ → Type 0
TakerSees known_given taken waiting = (given : List ℕ) × IsPrefix known_given given × (given ≡ taken ++ waiting)
