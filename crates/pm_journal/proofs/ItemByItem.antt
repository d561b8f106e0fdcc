-- Lists of what a line can ask for, item by item.
use Rattle.std.proofs.Common.{◌≡◌, ◌≤◌, ◌<◌, ◌+◌, ℕ, zero, suc, Bool, true, false, List, [], ◌∷◌, ◌++◌, length, take, drop, get_or, Option, None, nat_lt, if◌then◌else◌, bytes_eq, refl, sym, ◌∙◌, ap, subst, arith, append-nil, append_assoc, length-append, length-take, length-drop, take-append-drop}
use Rattle.std.specs.Prelude.{◌==◌}
use Rattle.std.proofs.lemmas.Bool.Decides.{nat_tests}
use Rattle.std.proofs.lemmas.List.{take_all, take_more}
use Rattle.std.specs.List.{list_any}
use Rattle.pm_model.specs.Actions.{IsResponse, names_in_actions, response_refusal}
use Rattle.pm_model.specs.Formed.{Each}
use Rattle.pm_model.specs.Forms.{distinct}
use Rattle.pm_model.specs.declared.actions.Action.{Action}
use Rattle.pm_model.specs.declared.obligations.ResponseError.{ResponseError}
use Rattle.pm_model.specs.declared.obligations.ResponseError.TheVariants.{NoActions, TooManyActions, TooManyNames}
use Rattle.pm_read.proofs.Distinct.{distinct-last, next_new, next_seen}

each_last : {X : Type 0} (P : X → Type 0) (xs : List X) (x : X) → Each P xs → P x → Each P (xs ++ x ∷ [])
each_last P [] x all last = (last, all)
each_last P (y ∷ xs) x all last = (all.0, each_last P xs x all.1 last)

pub each_next : {X : Type 0} (P : X → Type 0) (xs : List X) (i : ℕ) (x : X) → i < length xs → x ≡ get_or xs i x → Each P (take i xs) → P x → Each P (take (i + 1) xs)
each_next P xs i x within is so_far here =
    subst (Each P) (sym (take_more xs i x within ∙ ap (λ y. take i xs ++ y ∷ []) (sym is))) (each_last P (take i xs) x so_far here)

pub each_all : {X : Type 0} (P : X → Type 0) (xs : List X) (i : ℕ) → length xs ≤ i → Each P (take i xs) → Each P xs
each_all P xs i long all = subst (Each P) (take_all i xs long) all

pub distinct_next : (ns : List (List ℕ)) (i : ℕ) (n : List ℕ) → i < length ns → n ≡ get_or ns i n → distinct (take i ns) ≡ take i ns → list_any (bytes_eq n) (take i ns) ≡ false
    → distinct (take (i + 1) ns) ≡ take (i + 1) ns
distinct_next ns i n within is so_far new =
    sym (next_new ns (take i ns) i n within is (sym so_far) new) ∙ ap (λ m. take i ns ++ m ∷ []) is ∙ sym (take_more ns i n within)

pub distinct_all : (ns : List (List ℕ)) (i : ℕ) → length ns ≤ i → distinct (take i ns) ≡ take i ns → distinct ns ≡ ns
distinct_all ns i long so_far = subst (λ (l : List (List ℕ)). distinct l ≡ l) (take_all i ns long) so_far

pub each_at : {X : Type 0} (P : X → Type 0) (xs : List X) (i : ℕ) (x : X) → i < length xs → x ≡ get_or xs i x → Each P xs → P x
each_at P [] i x within is all = absurd (omega (arith, within))
each_at P (y ∷ xs) zero x within is all = subst P (sym is) all.0
each_at P (y ∷ xs) (suc i) x within is all = each_at P xs i x (omega (arith, within)) is all.1

with_one : (ns : List (List ℕ)) (n : List ℕ) (b : Bool) → length (if b then ns else ns ++ n ∷ []) ≤ length ns + 1
with_one ns n true = omega arith
with_one ns n false = omega (arith, length-append ns (n ∷ []))

distinct_grows : (xs ys : List (List ℕ)) → length (distinct (xs ++ ys)) ≤ length (distinct xs) + length ys
distinct_grows xs [] = omega (arith, ap (λ (l : List (List ℕ)). length (distinct l)) (append-nil xs))
distinct_grows xs (y ∷ ys) =
    omega (
      arith,
      distinct_grows (xs ++ y ∷ []) ys,
      ap (λ (l : List (List ℕ)). length (distinct l)) (append_assoc xs (y ∷ []) ys),
      ap length (distinct-last xs y),
      with_one (distinct xs) y (list_any (bytes_eq y) (distinct xs)),
    )

-- a name that stands there once before
pub not_distinct : (ns : List (List ℕ)) (i : ℕ) (n : List ℕ) → i < length ns → n ≡ get_or ns i n → distinct (take i ns) ≡ take i ns → list_any (bytes_eq n) (take i ns) ≡ true
    → distinct ns ≡ ns → ⊥
not_distinct ns i n within is so_far seen all =
    let before : take i ns ≡ distinct (take (i + 1) ns) = next_seen ns (take i ns) i n within is (sym so_far) seen in
    absurd (omega (
      arith,
      distinct_grows (take (i + 1) ns) (drop (i + 1) ns),
      ap (λ (l : List (List ℕ)). length (distinct l)) (take-append-drop (i + 1) ns),
      ap length all,
      ap length before,
      length-take i ns,
      length-drop (i + 1) ns,
      within,
    ))

-- a response is within its limits
pub response_fits : (actions : List Action) → IsResponse actions → response_refusal actions ≡ None
response_fits actions is = grind (arith, nat_tests)
