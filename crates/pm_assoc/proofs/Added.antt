-- One association more: at its user attribute, or with a new one.
use Rattle.std.proofs.Common.{◌≡◌, ℕ, zero, suc, ◌+◌, ◌<◌, ◌≤◌, List, [], ◌∷◌, ◌++◌, length, insert, refl, sym, ap, arith, append_assoc, length-append}
use Rattle.std.proofs.lemmas.Bool.{le-ltb, lt-ltb}
use Rattle.std.proofs.lemmas.List.{map_push}
use Rattle.pm_model.specs.Effect.{joined}
use Rattle.pm_model.specs.Decision.{of_grantee, associations_of}
use Rattle.pm_model.specs.declared.rights.Association.{Association}
use Rattle.pm_model.specs.declared.rights.Grant.{Grant}
use Rattle.pm_model.specs.declared.rights.Grantee.{Grantee}
use Rattle.pm_assoc.specs.Grantees.{grantee, association, AreGrantees, IsAt, IsGapFor, edited, with_grant}

-- behind what is not higher
joined-behind : (a : Association) (ua : ℕ) (grants : List Grant) (rest : List Association) → ua ≤ a.ua →
    joined a (of_grantee (grantee ua grants) ++ rest) ≡ of_grantee (grantee ua grants) ++ joined a rest
joined-behind a ua [] rest least = refl
joined-behind a ua (grant ∷ grants) rest least =
    rw (le-ltb a.ua ua least) (ap (λ bs. association ua grant ∷ bs) (joined-behind a ua grants rest least))

-- before what is higher
joined-first : (a : Association) (ua : ℕ) (grants : List Grant) (rest : List Association) → a.ua < ua → 0 < length grants →
    joined a (of_grantee (grantee ua grants) ++ rest) ≡ a ∷ (of_grantee (grantee ua grants) ++ rest)
joined-first a ua [] rest below some = absurd (omega (arith, some))
joined-first a ua (grant ∷ grants) rest below some = rw (lt-ltb a.ua ua below) refl

joined-before : (a : Association) (n : ℕ) (gs : List Grantee) → AreGrantees n gs → a.ua < n → joined a (associations_of gs) ≡ a ∷ associations_of gs
joined-before a n [] h below = refl
joined-before a n (g ∷ gs) h below = joined-first a g.ua g.grants (associations_of gs) (omega (arith, h.0, below)) h.1

-- one more of a user attribute
of_grantee-with_grant : (g : Grantee) (grant : Grant) (rest : List Association) →
    of_grantee (with_grant grant g) ++ rest ≡ of_grantee g ++ (association g.ua grant ∷ rest)
of_grantee-with_grant g grant rest =
    rw (map_push (association g.ua) g.grants grant) (append_assoc (of_grantee g) (association g.ua grant ∷ []) rest)

pub added-at : (n : ℕ) (gs : List Grantee) (ua i : ℕ) (grant : Grant) → AreGrantees n gs → IsAt ua gs i →
    associations_of (edited (with_grant grant) i gs) ≡ joined (association ua grant) (associations_of gs)
added-at n [] ua i grant h there = absurd there
added-at n (g ∷ gs) ua zero grant h there =
    let a = association ua grant in
    rw (
      of_grantee-with_grant g grant (associations_of gs),
      joined-behind a g.ua g.grants (associations_of gs) (omega (arith, there)),
      joined-before a (g.ua + 1) gs h.2 (omega (arith, there)),
      there,
    ) refl
added-at n (g ∷ gs) ua (suc i) grant h there =
    rw (joined-behind (association ua grant) g.ua g.grants (associations_of gs) (omega (arith, there.0)))
    (ap (λ bs. of_grantee g ++ bs) (added-at (g.ua + 1) gs ua i grant h.2 there.1))

pub added-new : (n : ℕ) (gs : List Grantee) (ua i : ℕ) (grant : Grant) → AreGrantees n gs → IsGapFor ua gs i →
    associations_of (insert gs i (grantee ua (grant ∷ []))) ≡ joined (association ua grant) (associations_of gs)
added-new n [] ua zero grant h gap = refl
added-new n [] ua (suc i) grant h gap = absurd (omega (arith, gap))
added-new n (g ∷ gs) ua zero grant h gap = sym (joined-first (association ua grant) g.ua g.grants (associations_of gs) gap h.1)
added-new n (g ∷ gs) ua (suc i) grant h gap =
    rw (joined-behind (association ua grant) g.ua g.grants (associations_of gs) (omega (arith, gap.0)))
    (ap (λ bs. of_grantee g ++ bs) (added-new (g.ua + 1) gs ua i grant h.2 gap.1))

-- ---- the order stays

pub ordered-at : (n : ℕ) (gs : List Grantee) (i : ℕ) (grant : Grant) → AreGrantees n gs → AreGrantees n (edited (with_grant grant) i gs)
ordered-at n [] i grant h = tt
ordered-at n (g ∷ gs) zero grant h = let l = length-append g.grants (grant ∷ []) in (h.0, omega (arith, l), h.2)
ordered-at n (g ∷ gs) (suc i) grant h = (h.0, h.1, ordered-at (g.ua + 1) gs i grant h.2)

pub ordered-new : (n : ℕ) (gs : List Grantee) (ua i : ℕ) (grant : Grant) → AreGrantees n gs → n ≤ ua → IsGapFor ua gs i →
    AreGrantees n (insert gs i (grantee ua (grant ∷ [])))
ordered-new n [] ua zero grant h least gap = (least, omega arith, tt)
ordered-new n [] ua (suc i) grant h least gap = absurd (omega (arith, gap))
ordered-new n (g ∷ gs) ua zero grant h least gap = (least, omega arith, (omega (arith, gap), h.1, h.2))
ordered-new n (g ∷ gs) ua (suc i) grant h least gap = (h.0, h.1, ordered-new (g.ua + 1) gs ua i grant h.2 (omega (arith, gap.0)) gap.1)
