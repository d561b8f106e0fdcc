-- What a call that tests a rule tells of a fact that needs the rule, or is the rule in other words.
use Rattle.std.proofs.Common.{◌≡◌, ◌↔◌, Bool, true, List, [], ◌∷◌, Result, Ok, Err, refl}
use Rattle.std.specs.List.{list_all}
use Rattle.std.proofs.lemmas.Bool.{and_parts, and_from}
use Rattle.pm_model.specs.Formed.{Each}
use Rattle.pm_sound.specs.Tells.{Tells}
use Rattle.pm_sound.specs.declared.errors.SoundError.{SoundError}
use Rattle.pm_sound.specs.declared.errors.SoundError.TheVariants.{Unsound, Memory}

-- where what is needed is broken, so is what needs it
pub broken : (P Q : Type 0) (e : SoundError) → (Q → P) → Tells {A = Unit {0}} (Err e) P → Tells {A = Unit {0}} (Err e) Q
broken P Q Unsound needs breaks = λ q. breaks (needs q)
broken P Q Memory needs breaks = tt

pub told : {A : Type 0} (P Q : Type 0) (r : Result A SoundError) → P ↔ Q → Tells r P → Tells r Q
told P Q (Ok a) same holds = same.0 holds
told P Q (Err e) same breaks = broken P Q e same.1 breaks

-- a test of each item
pub each-test : {X : Type 0} (test : X → Bool) (P : X → Type 0) → ((x : X) → (test x ≡ true) ↔ P x) → (xs : List X) → (list_all test xs ≡ true) ↔ Each P xs
each-test test P is [] = (λ h. tt, λ h. refl)
each-test test P is (x ∷ xs) = let rest = each-test test P is xs in (
  λ h. let p = and_parts (test x) (list_all test xs) h in ((is x).0 p.0, rest.0 p.1),
  λ h. and_from (test x) (list_all test xs) ((is x).1 h.0) (rest.1 h.1),
)

pub each-true : {X : Type 0} (test : X → Bool) (xs : List X) → (list_all test xs ≡ true) ↔ Each (λ x. test x ≡ true) xs
each-true test xs = each-test test (λ x. test x ≡ true) (λ x. (λ h. h, λ h. h)) xs
