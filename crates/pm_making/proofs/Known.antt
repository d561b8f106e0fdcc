-- The assignments of a sound document by name.
use Rattle.std.proofs.Common.{◌≡◌, ◌∙◌, ◌&&◌, List, ap, bytes_eq}
use Rattle.std.proofs.lemmas.Cmp.{nat_list_eq_equiv}
use Rattle.pm_laws.proofs.Items.{each-at}
use Rattle.pm_model.specs.Effect.{may_assign}
use Rattle.pm_policy.specs.Order.{leads_before, sorted}
use Rattle.pm_policy.specs.Policy.{called, is_same, standing}
use Rattle.pm_policy.specs.Sound.{AreOnceAssigned, AreSound, FitAssigned}
use Rattle.pm_policy.specs.Waiting.{AreKnown}
use Rattle.pm_policy.specs.declared.policy.DocAssignment.{DocAssignment}
use Rattle.pm_policy.specs.declared.policy.DocElement.{DocElement}
use Rattle.pm_policy.proofs.Fitting.{both-called}
use Rattle.pm_policy.proofs.Places.{called-made}
use Rattle.pm_policy.proofs.Sorted.{has-sorted, once-sorted}

-- both ends of each assignment stand
pub sound-known : (es : List DocElement) (pairs : List DocAssignment) → AreSound es pairs → AreKnown (sorted leads_before pairs) (standing es)
sound-known es pairs sound p c =
    let fit : FitAssigned (standing es) p = each-at (FitAssigned (standing es)) pairs p sound.kinds (has-sorted leads_before pairs p c) in
    let b = both-called may_assign (called (standing es) p.from) (called (standing es) p.to) fit in
    (called-made (standing es) p.from b.0 b.2, called-made (standing es) p.to b.1 b.3)

-- none stands twice
swapped : (p q : DocAssignment) → is_same q p ≡ is_same p q
swapped p q = ap (λ b. b && bytes_eq q.to p.to) (nat_list_eq_equiv.symm q.from p.from) ∙ ap (λ b. bytes_eq p.from q.from && b) (nat_list_eq_equiv.symm q.to p.to)

pub sorted_once : (pairs : List DocAssignment) → AreOnceAssigned pairs → AreOnceAssigned (sorted leads_before pairs)
sorted_once pairs once = once-sorted leads_before is_same (λ p q h. swapped p q ∙ h) pairs once
