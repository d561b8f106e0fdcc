-- Rows of more elements than the opening has, of which its own alone are assigned.
use Rattle.std.proofs.Common.{◌≡◌, ℕ, ◌≤◌, Bool, true, false, List, [], ◌∷◌, Option, refl, sym, ◌∙◌, ◌||◌, ◌&&◌, ◌==◌, arith}
use Rattle.std.proofs.lemmas.Bool.{eqb-true}
use Rattle.pm_model.specs.Containment.{contained}
use Rattle.pm_model.specs.State.{opening_assigned}
use Rattle.pm_reach.specs.Rows.{has, below}
use Rattle.pm_reach.specs.Changes.{TellContainment, Adds}
use Rattle.pm_reach.proofs.Bits.{ne-eqb}
use Rattle.pm_reach.proofs.Openings.{added_more, stays}
use Rattle.pm_reach.proofs.Passing.{has_below}

-- a further element is contained in itself alone
contained_alone : (x q : ℕ) → 3 ≤ x → contained opening_assigned x q ≡ (x == q)
unfolding contained
contained_alone x q h =
    itself (x == q) (x == 2) (x == 1) (1 == q) (contained ((2, 1) ∷ []) 0 q) (ne-eqb x 2 (λ e. omega (arith, h, e))) (ne-eqb x 1 (λ e. omega (arith, h, e))) where
      itself : (is two one l r : Bool) → two ≡ false → one ≡ false → ((is || (two && l)) || ((one || (two && true)) && r)) ≡ is
      itself is two one l r e f = rw (e, f) (stays (is || false) ∙ stays is)

-- and contains itself alone
contains_alone : (p x : ℕ) → 3 ≤ x → contained opening_assigned p x ≡ (p == x)
unfolding contained
contains_alone p x h =
    itself (p == x) (p == 2) (contained ((2, 1) ∷ []) p 1) (1 == x) (0 == x) (ne-eqb 1 x (λ e. omega (arith, h, e))) (ne-eqb 0 x (λ e. omega (arith, h, e))) where
      no_more : (is two one : Bool) → ((is || (two && false)) || (one && false)) ≡ is
      no_more true two one = refl
      no_more false true true = refl
      no_more false true false = refl
      no_more false false true = refl
      no_more false false false = refl

      itself : (is two one l r : Bool) → l ≡ false → r ≡ false → ((is || (two && l)) || (one && (r || false))) ≡ is
      itself is two one l r e f = rw (e, f) (no_more is two one)

pub added : (old new : List (List (Option (List ℕ)))) (x : ℕ) → 3 ≤ x → has old x ≡ false →
    TellContainment opening_assigned old → Adds x old new → TellContainment opening_assigned new
added old new x from none t a = added_more opening_assigned old new x none (λ q. contained_alone x q from) t a

pub alone : (rows : List (List (Option (List ℕ)))) → TellContainment opening_assigned rows → (p x : ℕ) → 3 ≤ x → below rows p x ≡ true → p ≡ x
alone rows t p x from h = eqb-true p x (sym (contains_alone p x from) ∙ sym (t p x (has_below rows p x h)) ∙ h)
