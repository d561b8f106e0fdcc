-- Actions within the limits of a response stay so with their rights as sets.
use Rattle.std.proofs.Common.{◌≡◌, ◌≤◌, ℕ, Bool, true, false, not, nat_lt, List, [], ◌∷◌, length, map, bytes_eq, Option, None, refl, arith}
use Rattle.std.proofs.lemmas.Bool.{ltb-false}
use Rattle.std.proofs.lemmas.Bool.Decides.{nat_tests}
use Rattle.std.proofs.lemmas.List.{length-map}
use Rattle.std.proofs.lemmas.List.Sums.{sum_by-cons}
use Rattle.std.proofs.lemmas.List.Filters.{length-filter_both}
use Rattle.pm_model.specs.Actions.{names_in_act, names_in_action, names_in_actions, response_refusal, max_names}
use Rattle.pm_model.specs.Forms.{distinct}
use Rattle.pm_model.specs.ResponseForms.{act_as_set, as_set}
use Rattle.pm_model.specs.declared.actions.Act.{Act}
use Rattle.pm_model.specs.declared.actions.Act.TheVariants.{Create, Delete, Assign, Deassign, Associate, Dissociate, Prohibit, Lift}
use Rattle.pm_model.specs.declared.actions.Action.{Action}
use Rattle.pm_model.specs.declared.obligations.ResponseError.{ResponseError}
use Rattle.pm_model.specs.declared.obligations.ResponseError.TheVariants.{NoActions, TooManyActions, TooManyNames}
use Rattle.pm_model.specs.Results.{first_of}

no_longer : (ns : List (List ℕ)) → length (distinct ns) ≤ length ns
no_longer [] = omega arith
no_longer (n ∷ ns) =
    let kept = length-filter_both (λ m. not (bytes_eq n m)) (λ m. not (not (bytes_eq n m))) (λ m. refl) (distinct ns) in
    let rest = no_longer ns in
    omega (arith, kept, rest)

no_more_in_act : (a : Act) → names_in_act (act_as_set a) ≤ names_in_act a
no_more_in_act (Create kind name into) = omega arith
no_more_in_act (Delete name) = omega arith
no_more_in_act (Assign from to) = omega arith
no_more_in_act (Deassign from to) = omega arith
no_more_in_act (Associate ua rights at) = let h = no_longer rights in omega (arith, h)
no_more_in_act (Dissociate ua at) = omega arith
no_more_in_act (Prohibit name subject rights inc exc mode) = let h = no_longer rights in omega (arith, h)
no_more_in_act (Lift name) = omega arith

no_more_in_action : (a : Action) → names_in_action (as_set a) ≤ names_in_action a
no_more_in_action a = let h = no_more_in_act a.act in omega (arith, h)

no_more : (actions : List Action) → names_in_actions (map as_set actions) ≤ names_in_actions actions
no_more [] = omega arith
no_more (a ∷ rest) =
    let here = no_more_in_action a in
    let behind = no_more rest in
    let new = sum_by-cons names_in_action (as_set a) (map as_set rest) in
    let old = sum_by-cons names_in_action a rest in
    omega (arith, here, behind, new, old)

-- the tests of a response in their order
abbrev refused : Bool → Bool → Bool → Option ResponseError
refused none many names = first_of ((none, NoActions) ∷ (many, TooManyActions) ∷ (names, TooManyNames) ∷ [])

names_pass : (none many names other : Bool) → refused none many names ≡ None → (names ≡ false → other ≡ false) → refused none many other ≡ None
names_pass true many names other fits so = absurd cc
names_pass false true names other fits so = absurd cc
names_pass false false true other fits so = absurd cc
names_pass false false false other fits so = rw (so refl) refl

below : (m n : ℕ) → m ≤ n → nat_lt 100 n ≡ false → nat_lt 100 m ≡ false
below m n less fits = let h = ltb-false 100 n fits in grind (arith, nat_tests)

pub sets_fit : (actions : List Action) → response_refusal actions ≡ None → response_refusal (map as_set actions) ≡ None
sets_fit actions fits =
    rw (length-map actions as_set)
    (names_pass _ _ _ (nat_lt max_names (names_in_actions (map as_set actions))) fits (below _ _ (no_more actions)))
