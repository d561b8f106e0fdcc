-- The associations of one user attribute on one element are gone.
use Rattle.std.proofs.Common.{◌≡◌, ℕ, zero, suc, ◌+◌, ◌<◌, ◌≤◌, ◌==◌, List, [], ◌∷◌, ◌++◌, length, slice_get, Some, filter, not, Bool, true, false, refl, sym, ◌∙◌, ap, arith, ne_eqb, eq-eqb, length-append}
use Rattle.std.proofs.lemmas.Bool.{eqb-true, eqb-false}
use Rattle.std.proofs.lemmas.List.{length-map}
use Rattle.std.proofs.lemmas.List.Elements.{filter-append}
use Rattle.pm_model.specs.Effect.{joins}
use Rattle.pm_model.specs.Decision.{of_grantee, associations_of}
use Rattle.pm_model.specs.declared.rights.Association.{Association}
use Rattle.pm_model.specs.declared.rights.Grant.{Grant}
use Rattle.pm_model.specs.declared.rights.Grantee.{Grantee}
use Rattle.pm_model.specs.Grants.{grants_off}
use Rattle.pm_assoc.specs.Grantees.{grantee, association, AreGrantees, IsAt, IsGapFor, edited, without_grant, kept, without_empty}

module _ (ua at : ℕ) where
  abbrev pub rest_of : List Association → List Association
  rest_of bs = filter (λ a. not (joins ua at a)) bs

  own-rest : (g : ℕ) (grants : List Grant) → (g == ua) ≡ true → rest_of (of_grantee (grantee g grants)) ≡ of_grantee (grantee g (grants_off at grants))
  own-rest g [] is = refl
  own-rest g (grant ∷ grants) is = either (own-rest g grants is) (grant.at == at) refl where
    either : rest_of (of_grantee (grantee g grants)) ≡ of_grantee (grantee g (grants_off at grants)) → (b : Bool) → (grant.at == at) ≡ b →
        rest_of (of_grantee (grantee g (grant ∷ grants))) ≡ of_grantee (grantee g (grants_off at (grant ∷ grants)))
    either further true on = rw (is, on) further
    either further false on = rw (is, on) (ap (λ bs. association g grant ∷ bs) further)

  other-rest : (g : ℕ) (grants : List Grant) → (g == ua) ≡ false → rest_of (of_grantee (grantee g grants)) ≡ of_grantee (grantee g grants)
  other-rest g [] is = refl
  other-rest g (grant ∷ grants) is = rw is (ap (λ bs. association g grant ∷ bs) (other-rest g grants is))

  rest-before : (g : Grantee) (bs : List Association) → (g.ua == ua) ≡ false → rest_of (of_grantee g ++ bs) ≡ of_grantee g ++ rest_of bs
  rest-before g bs is = rw (filter-append (λ a. not (joins ua at a)) (of_grantee g) bs, other-rest g.ua g.grants is) refl

  rest-higher : (n : ℕ) (gs : List Grantee) → AreGrantees n gs → ua < n → rest_of (associations_of gs) ≡ associations_of gs
  rest-higher n [] h below = refl
  rest-higher n (g ∷ gs) h below =
      rest-before g (associations_of gs) (ne_eqb g.ua ua (λ same. omega (arith, same, h.0, below)))
      ∙ ap (λ bs. of_grantee g ++ bs) (rest-higher (g.ua + 1) gs h.2 (omega (arith, h.0, below)))

  removed-at : (n : ℕ) (gs : List Grantee) (i : ℕ) → AreGrantees n gs → IsAt ua gs i →
      associations_of (edited (without_grant at) i gs) ≡ rest_of (associations_of gs)
  removed-at n [] i h there = absurd there
  removed-at n (g ∷ gs) zero h there =
      rw (
        filter-append (λ a. not (joins ua at a)) (of_grantee g) (associations_of gs),
        rest-higher (g.ua + 1) gs h.2 (omega (arith, there)),
        own-rest g.ua g.grants (eq-eqb g.ua ua there),
      ) refl
  removed-at n (g ∷ gs) (suc i) h there =
      rw (rest-before g (associations_of gs) (ne_eqb g.ua ua (λ same. omega (arith, same, there.0))))
      (ap (λ bs. of_grantee g ++ bs) (removed-at (g.ua + 1) gs i h.2 there.1))

  pub removed-gap : (n : ℕ) (gs : List Grantee) (i : ℕ) → AreGrantees n gs → IsGapFor ua gs i → associations_of gs ≡ rest_of (associations_of gs)
  removed-gap n [] i h gap = refl
  removed-gap n (g ∷ gs) zero h gap = sym (rest-higher g.ua (g ∷ gs) (omega arith, h.1, h.2) gap)
  removed-gap n (g ∷ gs) (suc i) h gap =
      rw (rest-before g (associations_of gs) (ne_eqb g.ua ua (λ same. omega (arith, same, gap.0))))
      (ap (λ bs. of_grantee g ++ bs) (removed-gap (g.ua + 1) gs i h.2 gap.1))

-- ---- a user attribute without associations goes

nothing-of : (ua : ℕ) (grants : List Grant) → length grants ≡ 0 → of_grantee (grantee ua grants) ≡ []
nothing-of ua [] none = refl
nothing-of ua (grant ∷ grants) none = absurd (omega (arith, none))

associations-kept : (g : Grantee) (gs : List Grantee) → associations_of (kept g gs) ≡ of_grantee g ++ associations_of gs
associations-kept g gs = either (length g.grants == 0) refl where
  either : (b : Bool) → (length g.grants == 0) ≡ b → associations_of (kept g gs) ≡ of_grantee g ++ associations_of gs
  either true is = rw (is, nothing-of g.ua g.grants (eqb-true (length g.grants) 0 is)) refl
  either false is = rw is refl

pub associations-without_empty : (i : ℕ) (gs : List Grantee) → associations_of (without_empty i gs) ≡ associations_of gs
associations-without_empty i [] = refl
associations-without_empty zero (g ∷ gs) = associations-kept g gs
associations-without_empty (suc i) (g ∷ gs) = ap (λ bs. of_grantee g ++ bs) (associations-without_empty i gs)

pub removed-at_once : (gs : List Grantee) (ua at i : ℕ) → AreGrantees 0 gs → IsAt ua gs i →
    associations_of (without_empty i (edited (without_grant at) i gs)) ≡ rest_of ua at (associations_of gs)
removed-at_once gs ua at i h there = associations-without_empty i (edited (without_grant at) i gs) ∙ removed-at ua at 0 gs i h there

-- ---- the order stays

ordered-lower : (m n : ℕ) (gs : List Grantee) → AreGrantees m gs → n ≤ m → AreGrantees n gs
ordered-lower m n [] h least = tt
ordered-lower m n (g ∷ gs) h least = (omega (arith, h.0, least), h.1, h.2)

ordered-kept : (n : ℕ) (g : Grantee) (gs : List Grantee) → n ≤ g.ua → AreGrantees (g.ua + 1) gs → AreGrantees n (kept g gs)
ordered-kept n g gs least h = either (length g.grants == 0) refl where
  either : (b : Bool) → (length g.grants == 0) ≡ b → AreGrantees n (kept g gs)
  either true is = rw is (ordered-lower (g.ua + 1) n gs h (omega (arith, least)))
  either false is = let some : length g.grants ≡ 0 → ⊥ = eqb-false (length g.grants) 0 is in rw is (least, omega (arith, some), h)

pub ordered-removed : (n : ℕ) (gs : List Grantee) (i at : ℕ) → AreGrantees n gs → AreGrantees n (without_empty i (edited (without_grant at) i gs))
ordered-removed n [] i at h = tt
ordered-removed n (g ∷ gs) zero at h = ordered-kept n (without_grant at g) gs h.0 h.2
ordered-removed n (g ∷ gs) (suc i) at h = (h.0, h.1, ordered-removed (g.ua + 1) gs i at h.2)

-- ---- how many are left

pub length-grants_off : (at : ℕ) (grants : List Grant) → length (grants_off at grants) ≤ length grants
length-grants_off at [] = omega arith
length-grants_off at (grant ∷ grants) = either (length-grants_off at grants) (grant.at == at) refl where
  either : length (grants_off at grants) ≤ length grants → (b : Bool) → (grant.at == at) ≡ b → length (grants_off at (grant ∷ grants)) ≤ length (grant ∷ grants)
  either rest true is = rw is (omega (arith, rest))
  either rest false is = rw is (omega (arith, rest))

length-of : (g : Grantee) (bs : List Association) → length (of_grantee g ++ bs) ≡ length g.grants + length bs
length-of g bs = let l = length-append (of_grantee g) bs in let m = length-map g.grants (association g.ua) in omega (arith, l, m)

pub length-removed : (gs : List Grantee) (i at gone : ℕ) (g : Grantee) → slice_get gs i ≡ Some g →
    length (grants_off at g.grants) + gone ≡ length g.grants → length (associations_of (edited (without_grant at) i gs)) + gone ≡ length (associations_of gs)
length-removed [] i at gone g read count = cc
length-removed (x ∷ gs) zero at gone g read count =
    let same : x ≡ g = cc in
    let l = length-of x (associations_of gs) in
    let m = length-of (without_grant at x) (associations_of gs) in
    let n : length (grants_off at x.grants) + gone ≡ length x.grants = rw same count in omega (arith, l, m, n)
length-removed (x ∷ gs) (suc i) at gone g read count =
    let rest = length-removed gs i at gone g read count in
    let l = length-of x (associations_of gs) in
    let m = length-of x (associations_of (edited (without_grant at) i gs)) in omega (arith, l, m, rest)
