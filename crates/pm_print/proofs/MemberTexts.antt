-- Members that are written one after another behind a first one: what stands of them so far, and one more.
use Rattle.std.proofs.Common.{◌≡◌, ℕ, zero, suc, ◌+◌, ◌<◌, ◌≤◌, List, [], ◌∷◌, ◌++◌, length, length-append, take, get_or, map, Option, refl, sym, ap, ◌∙◌, arith, append_assoc, append-nil}
use Rattle.std.proofs.lemmas.Grind.{common_steps}
use Rattle.serde_json.specs.Data.{Data}
use Rattle.pm_print.specs.Members.{leading, leading_all}

last : (fs : List (List ℕ × Option Data)) (f : List ℕ × Option Data) → leading_all (fs ++ f ∷ []) ≡ leading_all fs ++ leading f.0 f.1
last [] f = append-nil (leading f.0 f.1)
last (g ∷ fs) f = ap (λ t. leading g.0 g.1 ++ t) (last fs f) ∙ sym (append_assoc (leading g.0 g.1) (leading_all fs) (leading f.0 f.1))

mapped : {X : Type 0} (told : X → List ℕ × Option Data) (xs : List X) (i : ℕ) (x : X) → i < length xs →
    map told (take (i + 1) xs) ≡ map told (take i xs) ++ told (get_or xs i x) ∷ []
mapped told xs i x within = grind (arith, common_steps)

-- one member more
pub members_more : {X : Type 0} (told : X → List ℕ × Option Data) (xs : List X) (i : ℕ) (x : X) → i < length xs → x ≡ get_or xs i x →
    leading_all (map told (take (i + 1) xs)) ≡ leading_all (map told (take i xs)) ++ leading (told x).0 (told x).1
members_more told xs i x within is =
    ap leading_all (mapped told xs i x within) ∙ (last (map told (take i xs)) (told (get_or xs i x)) ∙ rw (sym is) refl)

-- what stands of them so far is no longer than the whole
pub members_within : {X : Type 0} (told : X → List ℕ × Option Data) (i : ℕ) (xs : List X) →
    length (leading_all (map told (take i xs))) ≤ length (leading_all (map told xs))
members_within told zero xs = omega arith
members_within told (suc i) [] = omega arith
members_within told (suc i) (x ∷ xs) =
    let rest = members_within told i xs in
    let a = length-append (leading (told x).0 (told x).1) (leading_all (map told (take i xs))) in
    let b = length-append (leading (told x).0 (told x).1) (leading_all (map told xs)) in
    omega (arith, rest, a, b)
