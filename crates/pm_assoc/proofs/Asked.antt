-- What is asked of the associations, by user attribute.
use Rattle.std.proofs.Common.{◌≡◌, ℕ, zero, suc, ◌+◌, ◌<◌, ◌==◌, List, [], ◌∷◌, ◌++◌, length, slice_get, Some, Bool, true, false, ◌||◌, refl, ap, ◌∙◌, arith, ne_eqb, eq-eqb}
use Rattle.std.specs.List.{list_any}
use Rattle.std.proofs.lemmas.List.Folds.{list_any-append}
use Rattle.pm_model.specs.Effect.{joins, has_end}
use Rattle.pm_model.specs.Decision.{of_grantee, associations_of}
use Rattle.pm_model.specs.declared.rights.Association.{Association}
use Rattle.pm_model.specs.declared.rights.Grant.{Grant}
use Rattle.pm_model.specs.declared.rights.Grantee.{Grantee}
use Rattle.pm_model.specs.Grants.{is_on}
use Rattle.pm_assoc.specs.Grantees.{grantee, mentions, AreGrantees, IsAt, IsGapFor}

or_false : (b : Bool) → (b || false) ≡ b
or_false true = refl
or_false false = refl

module _ (ua at : ℕ) where
  -- of the user attribute's own, those on the element
  joins-own : (g : ℕ) (grants : List Grant) → (g == ua) ≡ true → list_any (joins ua at) (of_grantee (grantee g grants)) ≡ list_any (is_on at) grants
  joins-own g [] is = refl
  joins-own g (grant ∷ grants) is = rw (is, joins-own g grants is) refl

  -- of another's, none
  joins-other : (g : ℕ) (grants : List Grant) → (g == ua) ≡ false → list_any (joins ua at) (of_grantee (grantee g grants)) ≡ false
  joins-other g [] is = refl
  joins-other g (grant ∷ grants) is = rw (is, joins-other g grants is) refl

  joins-before : (g : Grantee) (rest : List Association) → (g.ua == ua) ≡ false →
      list_any (joins ua at) (of_grantee g ++ rest) ≡ list_any (joins ua at) rest
  joins-before g rest is = rw (list_any-append (joins ua at) (of_grantee g) rest, joins-other g.ua g.grants is) refl

  joins-higher : (n : ℕ) (gs : List Grantee) → AreGrantees n gs → ua < n → list_any (joins ua at) (associations_of gs) ≡ false
  joins-higher n [] h below = refl
  joins-higher n (g ∷ gs) h below =
      joins-before g (associations_of gs) (ne_eqb g.ua ua (λ same. omega (arith, same, h.0, below))) ∙ joins-higher (g.ua + 1) gs h.2 (omega (arith, h.0, below))

  pub joins-at : (n : ℕ) (gs : List Grantee) (i : ℕ) (g : Grantee) → AreGrantees n gs → IsAt ua gs i → slice_get gs i ≡ Some g →
      list_any (joins ua at) (associations_of gs) ≡ list_any (is_on at) g.grants
  joins-at n [] i g h there read = absurd there
  joins-at n (x ∷ gs) zero g h there read =
      let same : x ≡ g = cc in
      rw (
        list_any-append (joins ua at) (of_grantee x) (associations_of gs),
        joins-higher (x.ua + 1) gs h.2 (omega (arith, there)),
        joins-own x.ua x.grants (eq-eqb x.ua ua there),
      ) (or_false (list_any (is_on at) x.grants) ∙ ap (λ (y : Grantee). list_any (is_on at) y.grants) same)
  joins-at n (x ∷ gs) (suc i) g h there read =
      joins-before x (associations_of gs) (ne_eqb x.ua ua (λ same. omega (arith, same, there.0))) ∙ joins-at (x.ua + 1) gs i g h.2 there.1 read

  pub joins-gap : (n : ℕ) (gs : List Grantee) (i : ℕ) → AreGrantees n gs → IsGapFor ua gs i → list_any (joins ua at) (associations_of gs) ≡ false
  joins-gap n [] i h gap = refl
  joins-gap n (g ∷ gs) zero h gap =
      joins-before g (associations_of gs) (ne_eqb g.ua ua (λ same. omega (arith, same, gap))) ∙ joins-higher (g.ua + 1) gs h.2 (omega (arith, gap))
  joins-gap n (g ∷ gs) (suc i) h gap =
      joins-before g (associations_of gs) (ne_eqb g.ua ua (λ same. omega (arith, same, gap.0))) ∙ joins-gap (g.ua + 1) gs i h.2 gap.1

module _ (id : ℕ) where
  -- some association of the user attribute has the element at either end where it has any at all
  ends-own : (g : ℕ) (grants : List Grant) → (g == id) ≡ true → 0 < length grants → list_any (has_end id) (of_grantee (grantee g grants)) ≡ true
  ends-own g [] is some = absurd (omega (arith, some))
  ends-own g (grant ∷ grants) is some = rw is refl

  ends-other : (g : ℕ) (grants : List Grant) → (g == id) ≡ false → list_any (has_end id) (of_grantee (grantee g grants)) ≡ list_any (is_on id) grants
  ends-other g [] is = refl
  ends-other g (grant ∷ grants) is = rw (is, ends-other g grants is) refl

  ends-of : (g : Grantee) → 0 < length g.grants → list_any (has_end id) (of_grantee g) ≡ mentions id g
  ends-of g some = either (g.ua == id) refl where
    either : (b : Bool) → (g.ua == id) ≡ b → list_any (has_end id) (of_grantee g) ≡ mentions id g
    either true is = rw is (ends-own g.ua g.grants is some)
    either false is = rw is (ends-other g.ua g.grants is)

  pub ends-mentioned : (n : ℕ) (gs : List Grantee) → AreGrantees n gs → list_any (has_end id) (associations_of gs) ≡ list_any (mentions id) gs
  ends-mentioned n [] h = refl
  ends-mentioned n (g ∷ gs) h =
      rw (list_any-append (has_end id) (of_grantee g) (associations_of gs), ends-of g h.1, ends-mentioned (g.ua + 1) gs h.2) refl
