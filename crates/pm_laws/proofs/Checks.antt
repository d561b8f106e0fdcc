-- The preconditions of a change, where none of them refused it.
use Rattle.std.proofs.Common.{◌≡◌, List, [], ◌∷◌, Option, Some, None, Bool, false, refl, Ok}
use Rattle.std.proofs.lemmas.Bool.{cond_both}
use Rattle.pm_model.specs.Results.{first_of, unless}

-- no test said yes
abbrev pub ArePassed : {E : Type 0} → List (Bool × E) → Type 0
ArePassed [] = Unit {0}
ArePassed (check ∷ checks) = (check.0 ≡ false) × ArePassed checks

pub passed : {E : Type 0} (checks : List (Bool × E)) → first_of checks ≡ None → ArePassed checks
passed [] = λ none. tt
passed (check ∷ checks) = cond_both check.0 (Some check.1) (first_of checks) (λ why. why ≡ None → (check.0 ≡ false) × ArePassed checks)
    (λ is none. absurd (cc)) (λ is none. (is, passed checks none))

pub unless-ok : {A E : Type 0} (why : Option E) (new made : A) → unless why new ≡ Ok made → (why ≡ None) × (new ≡ made)
unless-ok (Some why) new made e = absurd (cc)
unless-ok None new made e = (refl, cc)
