-- Rights that were found on some elements, by number, each with a bit where it is known.
use Rattle.std.specs.Prelude.{◌≡◌, ◌<◌, ◌*◌, ℕ, Bool, true, List, Option, length, slice_index}
use Rattle.std.specs.List.{list_any, list_all}
use Rattle.std.specs.Option.{ForSome}
use Rattle.pm_model.specs.Decision.{associations_of, classes_of, privilege}
use Rattle.pm_model.specs.declared.rights.Grant.{Grant}
use Rattle.pm_model.specs.declared.rights.Grantee.{Grantee}
use Rattle.pm_decide.specs.Gives.{gives}
use Rattle.pm_decide.specs.Sets.{IsSetOf}
use Rattle.pm_given.specs.Given.{given}
use Rattle.pm_given.specs.Told.{Table, is_marked}

-- in each class that contains e some of these grants gives r on it
abbrev pub is_held : (ℕ → ℕ → Bool) → List ℕ → List Grant → ℕ → ℕ → Bool
is_held below classes L e r = list_all (λ c. list_any (gives below r e c) L) (classes_of below classes e)

-- what is known of an element is what these grants give on it
abbrev pub AreHeld : (ℕ → ℕ → Bool) → List ℕ → List Grant → List ℕ → List ℕ → Type 0
AreHeld below classes L found known = (e : ℕ) → is_marked known e ≡ true → IsSetOf (is_held below classes L e) (slice_index found e)

-- what the table knows is what the user of whom it tells is given
abbrev pub IsKnown : (ℕ → ℕ → Bool) → List Grantee → List ℕ → Table → Type 0
IsKnown below gs classes T = ForSome T.user (λ u. AreHeld below classes (given below u gs) T.found T.known)

-- ---- of one element

-- what is known of a user or a user attribute is what these associations give it on e
abbrev pub AreHeldOn : (ℕ → ℕ → Bool) → List Grantee → List ℕ → ℕ → List ℕ → List ℕ → Type 0
AreHeldOn below gs classes e found known =
    (u : ℕ) → is_marked known u ≡ true → IsSetOf (λ r. privilege below (associations_of gs) classes u r e) (slice_index found u)

-- the element, and the rights that were found on it
pub record Sheet : Type 0 where
  pub element : Option ℕ
  pub found : List ℕ
  pub known : List ℕ

pub record IsSheet (S : Sheet) : Type 0 where
  pub long : length S.found ≡ 64 * length S.known

abbrev pub IsKnownOn : (ℕ → ℕ → Bool) → List Grantee → List ℕ → Sheet → Type 0
IsKnownOn below gs classes S = ForSome S.element (λ e. AreHeldOn below gs classes e S.found S.known)
