use Rattle.std.proofs.Common.{◌∙◌, ◌++◌, ap, sym, subst}
use Rattle.std.proofs.lemmas.Result.{err_from_is_err_and}
use Rattle.pm_policy.specs.Policy.{standing}
use Rattle.pm_policy.specs.Sound.{AreOnceAssigned, AreOnceCalled, AreSound, opening_pairs}
use Rattle.pm_sound.specs.Groups.{AreTied}
use Rattle.pm_sound.proofs.Tied.{sound-tied, tied-sound}
use Rattle.pm_sound.proofs.Told.{broken}
use Rattle.pm_sound.proofs.sound.check_elements.Goals as goal

pub returns-in_err-check_assigned_once-clause-rules : goal.returns-in_err-check_assigned_once-clause-rules
returns-in_err-check_assigned_once-clause-rules c =
    let D = c.args.policy.now in
    let p = err_from_is_err_and c.from_residual-in_err-check_assigned_once.result c.from_residual-in_err-check_assigned_once.ensures.1 in
    rw (p.1, p.2) (broken (AreOnceAssigned (opening_pairs ++ c.as_slice-pairs.result.now)) (AreSound D.elements D.assignments) c.in_err-check_assigned_once.field-0.0
    (λ s. subst (λ l. AreOnceAssigned (opening_pairs ++ l)) (sym c.as_slice-pairs.ensures) s.assigned_once) c.in_err-check_assigned_once.ensures)

pub check_ties-requires : goal.check_ties-requires
check_ties-requires c = record {
  once = subst AreOnceCalled (c.as_slice-2.ensures.value ∙ sym c.as_slice-3.ensures.value) c.in_ok-standing.ensures.once;
  standing = c.in_ok-standing.ensures.list ∙ c.as_slice-2.ensures.value ∙ sym c.as_slice-3.ensures.value;
}

pub returns-in_err-check_ties-clause-rules : goal.returns-in_err-check_ties-clause-rules
returns-in_err-check_ties-clause-rules c =
    let D = c.args.policy.now in
    let elements = c.as_slice-3.ensures.value ∙ c.in_ok-elements.ensures ∙ ap (λ l. standing l) c.as_slice.ensures in
    let pairs = ap (λ l. opening_pairs ++ l) c.as_slice-pairs.ensures in
    let p = err_from_is_err_and c.from_residual-in_err-check_ties.result c.from_residual-in_err-check_ties.ensures.1 in
    rw (p.1, p.2) (broken (AreTied c.as_slice-3.result.now (opening_pairs ++ c.as_slice-pairs.result.now)) (AreSound D.elements D.assignments) c.in_err-check_ties.field-0.0
    (λ s. rw (elements, pairs) (tied-sound D s)) c.in_err-check_ties.ensures)

pub returns-clause-rules : goal.returns-clause-rules
returns-clause-rules c =
    let D = c.args.policy.now in
    let elements = c.as_slice-3.ensures.value ∙ c.in_ok-elements.ensures ∙ ap (λ l. standing l) c.as_slice.ensures in
    let pairs = ap (λ l. opening_pairs ++ l) c.as_slice-pairs.ensures in
    let all = c.as_slice-2.ensures.value ∙ c.in_ok-elements.ensures ∙ ap (λ l. standing l) c.as_slice.ensures in
    sound-tied D c.requires (subst AreOnceCalled all c.in_ok-standing.ensures.once)
    (subst (λ l. AreOnceAssigned (opening_pairs ++ l)) c.as_slice-pairs.ensures c.in_ok-check_assigned_once.ensures)
    (subst (λ l. AreTied (standing D.elements) l) pairs (subst (λ l. AreTied l (opening_pairs ++ c.as_slice-pairs.result.now)) elements c.in_ok-check_ties.ensures))
