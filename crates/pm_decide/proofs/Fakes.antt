-- Containers and user attributes by words, as the tests keep them.
use Rattle.std.proofs.Common.{◌≡◌, ℕ, ◌+◌, ◌*◌, ◌<◌, ◌≤◌, ◌-◌, zero, suc, ◌==◌, ◌||◌, true, false, List, [], ◌∷◌, ◌++◌, length, take, drop, get_or, Result, Ok, Err, OnOk, OnErr, length-append, filter, bit_or, All, refl, ap, ◌∙◌, arith, inl, inr}
use Rattle.std.specs.Int.{bit_at}
use Rattle.std.specs.List.{list_any}
use Rattle.std.proofs.lemmas.Bool.{cases_eq, eq-eqb, ne_eqb}
use Rattle.std.proofs.lemmas.List.Elements.{All-push, filter-append}
use Rattle.pm_model.proofs.Bits.{bit_or_has}
use Rattle.pm_model.specs.Containment.{contained}
use Rattle.pm_model.specs.Decision.{is_grantee}
use Rattle.pm_model.specs.declared.rights.Grantee.{Grantee}

front-all : {X : Type 0} (n : ℕ) (xs : List X) → n ≡ length xs → take n xs ≡ xs
front-all zero [] long = refl
front-all zero (x ∷ xs) long = absurd (omega (arith, long))
front-all (suc n) [] long = absurd (omega (arith, long))
front-all (suc n) (x ∷ xs) long = ap (λ ys. x ∷ ys) (front-all n xs (omega (arith, long)))

pub numbers-step : (gs : List Grantee) (k a b : ℕ) (g : Grantee) → 1 ≤ length gs → g ≡ get_or gs 0 g →
    ((i : ℕ) → i < 64 → (bit_at a i == 1) ≡ (g.ua == 64 * k + i)) →
    ((i : ℕ) → i < 64 → (bit_at b i == 1) ≡ list_any (is_grantee (64 * k + i)) (take (length gs - 1) (drop 1 gs))) →
    (i : ℕ) → i < 64 → (bit_at (bit_or a b) i == 1) ≡ list_any (is_grantee (64 * k + i)) gs
numbers-step [] k a b g some is in_a in_b i h = absurd (omega arith)
numbers-step (x ∷ gs) k a b g some is in_a in_b i h =
    let all : take (length (x ∷ gs) - 1) gs ≡ gs = front-all (length (x ∷ gs) - 1) gs (omega arith) in
    let later : (bit_at b i == 1) ≡ list_any (is_grantee (64 * k + i)) gs = in_b i h ∙ ap (list_any (is_grantee (64 * k + i))) all in
    bit_or_has a b i ∙ rw (in_a i h, later) (ap (λ (y : Grantee). y.ua == 64 * k + i || list_any (is_grantee (64 * k + i)) gs) is)

pub containers-step : (pairs : List (ℕ × ℕ)) (x k a b : ℕ) → 1 ≤ length pairs →
    true ≡ contained (take (length pairs - 1) (drop 1 pairs)) x (get_or pairs 0 (0, 0)).0 →
    ((i : ℕ) → i < 64 → (bit_at a i == 1) ≡ contained (take (length pairs - 1) (drop 1 pairs)) x (64 * k + i)) →
    ((i : ℕ) → i < 64 → (bit_at b i == 1) ≡ contained (take (length pairs - 1) (drop 1 pairs)) (get_or pairs 0 (0, 0)).1 (64 * k + i)) →
    (i : ℕ) → i < 64 → (bit_at (bit_or a b) i == 1) ≡ contained pairs x (64 * k + i)
unfolding contained
containers-step [] x k a b some within in_a in_b i h = absurd (omega arith)
containers-step (p ∷ rest) x k a b some within in_a in_b i h =
    let all : take (length (p ∷ rest) - 1) rest ≡ rest = front-all (length (p ∷ rest) - 1) rest (omega arith) in
    let inside : true ≡ contained rest x p.0 = within ∙ ap (λ r. contained r x p.0) all in
    let one : (bit_at a i == 1) ≡ contained rest x (64 * k + i) = in_a i h ∙ ap (λ r. contained r x (64 * k + i)) all in
    let two : (bit_at b i == 1) ≡ contained rest p.1 (64 * k + i) = in_b i h ∙ ap (λ r. contained r p.1 (64 * k + i)) all in
    bit_or_has a b i ∙ rw (one, two, ← inside) refl

not-there : (gs : List Grantee) (n : ℕ) → list_any (is_grantee n) gs ≡ false → filter (is_grantee n) gs ≡ []
not-there [] n none = refl
not-there (g ∷ gs) n none = elim (cases_eq g.ua n) [
  | inl e ↦ let no : true ≡ false = rw (eq-eqb g.ua n e) at none in cc
  | inr d ↦ rw (ne_eqb g.ua n d) (not-there gs n (rw (ne_eqb g.ua n d) at none))
]

once-more : (old : List Grantee) (g : Grantee) → list_any (is_grantee g.ua) old ≡ false → ((n : ℕ) → length (filter (is_grantee n) old) ≤ 1) →
    (n : ℕ) → length (filter (is_grantee n) (old ++ g ∷ [])) ≤ 1
once-more old g none once n = elim (cases_eq g.ua n) [
  | inl e ↦
      let empty : filter (is_grantee n) old ≡ [] = not-there old n (rw e at none) in
      rw (filter-append (is_grantee n) old (g ∷ []), eq-eqb g.ua n e, empty) (omega arith)
  | inr d ↦
      let o = once n in
      let l = length-append (filter (is_grantee n) old) [] in
      rw (filter-append (is_grantee n) old (g ∷ []), ne_eqb g.ua n d) (omega (arith, l, o))
]

-- one user attribute more, or after want of memory none
pub few-added : {E : Type 0} (r : Result (Unit {0}) E) (old new : List Grantee) (g : Grantee) → OnOk r (new ≡ old ++ g ∷ []) → OnErr r (new ≡ old) →
    g.ua < 16384 → All (λ (x : Grantee). x.ua < 16384) old → All (λ (x : Grantee). x.ua < 16384) new
few-added (Ok u) old new g ok err small few = rw ok (All-push (λ (x : Grantee). x.ua < 16384) old g few small)
few-added (Err e) old new g ok err small few = rw err few

pub once-added : {E : Type 0} (r : Result (Unit {0}) E) (old new : List Grantee) (g : Grantee) → OnOk r (new ≡ old ++ g ∷ []) → OnErr r (new ≡ old) →
    list_any (is_grantee g.ua) old ≡ false → ((n : ℕ) → length (filter (is_grantee n) old) ≤ 1) → (n : ℕ) → length (filter (is_grantee n) new) ≤ 1
once-added (Ok u) old new g ok err none once n = rw ok (once-more old g none once n)
once-added (Err e) old new g ok err none once n = rw err (once n)
