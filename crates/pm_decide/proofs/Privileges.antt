-- The privilege holds exactly where no class is lacking; and what the classes leave, one by one.
use Rattle.std.proofs.Common.{◌≡◌, ℕ, ◌+◌, Bool, true, false, not, ◌||◌, List, drop, slice_get, Option, Some, is_some, bit_and, refl, ap, sym, ◌∙◌}
use Rattle.pm_model.specs.declared.rights.Association.{Association}
use Rattle.pm_model.specs.Decision.{lacking, privilege, is_met, classes_of}
use Rattle.pm_decide.specs.Sets.{IsSetOf}
use Rattle.pm_decide.proofs.Walks.{found-by_all, all-drop}
use Rattle.pm_decide.proofs.RightSets.{IsMeeting, meeting-more, met_none}

not-same : (a b : Bool) → not a ≡ not b → a ≡ b
not-same true true h = refl
not-same true false h = cc
not-same false true h = cc
not-same false false h = refl

pub privilege-none_lacking : (below : ℕ → ℕ → Bool) (associations : List Association) (classes : List ℕ) (u r e : ℕ)
    (found : Option ℕ) (none : Bool) → found ≡ lacking below associations classes u r e → is_some found ≡ not none →
    none ≡ privilege below associations classes u r e
privilege-none_lacking below associations classes u r e found none first is =
    not-same none _ (sym is ∙ ap is_some first ∙ found-by_all (is_met below associations u r e) (classes_of below classes e))

-- the class at i leaves what it does of the rights so far
module _ (below : ℕ → ℕ → Bool) (associations : List Association) (classes : List ℕ) (u e i pc so_far more next : ℕ) where
  pub privileges-more :
      IsMeeting so_far (λ r. privilege below associations (drop i classes) u r e) (λ r. privilege below associations classes u r e) →
      slice_get classes i ≡ Some pc → IsSetOf (λ r. not (below e pc) || is_met below associations u r e pc) more → next ≡ bit_and so_far more →
      IsMeeting next (λ r. privilege below associations (drop (i + 1) classes) u r e) (λ r. privilege below associations classes u r e)
  privileges-more meeting at is both =
      rw both (meeting-more so_far more (λ r. not (below e pc) || is_met below associations u r e pc)
      (λ r. privilege below associations (drop (i + 1) classes) u r e) (λ r. privilege below associations (drop i classes) u r e)
      (λ r. privilege below associations classes u r e) meeting is
      (λ r. all-drop (below e) (is_met below associations u r e) classes i pc at))

  pub privileges-none :
      IsMeeting so_far (λ r. privilege below associations (drop i classes) u r e) (λ r. privilege below associations classes u r e) →
      slice_get classes i ≡ Some pc → IsSetOf (λ r. not (below e pc) || is_met below associations u r e pc) more → next ≡ bit_and so_far more →
      next ≡ 0 → IsSetOf (λ r. privilege below associations classes u r e) 0
  privileges-none meeting at is both none =
      met_none next (λ r. privilege below associations (drop (i + 1) classes) u r e) (λ r. privilege below associations classes u r e)
      (privileges-more meeting at is both) none
