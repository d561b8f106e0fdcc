-- What is known where no precondition refuses a change.
use Rattle.std.proofs.Common.{◌≡◌, ◌<◌, ℕ, Bool, true, false, List, length, Option, Some, None, cond, refl}
use Rattle.std.specs.List.{list_any}
use Rattle.std.proofs.lemmas.Bool.{not-false, leb-false}
use Rattle.pm_model.specs.Effect.{max_assignments, is_pair, assign_checks, deassign_checks}
use Rattle.pm_model.specs.Results.{first_of}
use Rattle.pm_model.specs.declared.elements.Element.{Element}

passed : {E : Type 0} (b : Bool) (e : E) (rest : Option E) → cond b (Some e) rest ≡ None → (b ≡ false) × (rest ≡ None)
passed true e rest h = absurd (cc)
passed false e rest h = (refl, h)

pub assign_fits : (es : List Element) (pairs : List (ℕ × ℕ)) (x y : ℕ) → first_of (assign_checks es pairs x y) ≡ None → (list_any (is_pair x y) pairs ≡ false) × (length pairs < max_assignments)
assign_fits es pairs x y h =
    let kinds = passed _ _ _ h in
    let already = passed _ _ _ kinds.1 in
    let cycle = passed _ _ _ already.1 in
    let full = passed _ _ _ cycle.1 in
    (already.0, leb-false max_assignments (length pairs) full.0)

pub deassign_fits : (pairs : List (ℕ × ℕ)) (x y : ℕ) → first_of (deassign_checks pairs x y) ≡ None → list_any (is_pair x y) pairs ≡ true
deassign_fits pairs x y h = not-false (list_any (is_pair x y) pairs) (passed _ _ _ h).0
