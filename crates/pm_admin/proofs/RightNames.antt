-- The names of rights are looked up from the last one on.
use Rattle.std.proofs.Common.{◌≡◌, ◌≤◌, ◌<◌, ◌+◌, ◌-◌, arith, ℕ, List, length, drop, Result, Some, sym, ◌∙◌, ap}
use Rattle.std.specs.List.{slice_get}
use Rattle.pm_model.specs.Resolve.{look_up_rights}
use Rattle.pm_model.specs.State.{Graph}
use Rattle.pm_model.specs.declared.replies.Refusal.{Refusal}
use Rattle.pm_model.proofs.Walks.{drop-item}
use Rattle.pm_admin.specs.Rights.{with_named}

-- what the names from place i on give
pub record LookedUp (G : Graph) (names : List (List ℕ)) (i : ℕ) (found : Result ℕ Refusal) : Type 0 where
  pub within : i ≤ length names
  pub told : found ≡ look_up_rights G (drop i names)

-- with one name more
pub looked_up-more : (G : Graph) (names : List (List ℕ)) (i : ℕ) (name : List ℕ) (rest : Result ℕ Refusal) → slice_get names i ≡ Some name →
    rest ≡ look_up_rights G (drop (i + 1) names) → with_named G name rest ≡ look_up_rights G (drop i names)
looked_up-more G names i name rest at is = ap (with_named G name) is ∙ sym (ap (look_up_rights G) (drop-item names i name at))

-- the step to the place before
pub looked_up-before : (G : Graph) (names : List (List ℕ)) (i : ℕ) (name : List ℕ) (found : Result ℕ Refusal) → 0 < i → LookedUp G names i found →
    slice_get names (i - 1) ≡ Some name → LookedUp G names (i - 1) (with_named G name found)
looked_up-before G names i name found some h at =
    let same : i - 1 + 1 ≡ i = omega (arith, some) in
    let within = h.within in
    record {
      within = omega (arith, within);
      told = looked_up-more G names (i - 1) name found at (h.told ∙ ap (λ k. look_up_rights G (drop k names)) (sym same));
    }
