use Rattle.std.proofs.Common.{◌≡◌, ◌∙◌, sym, subst, Bool, true, bytes_eq}
use Rattle.std.proofs.lemmas.Result.{err_from_is_err_and}
use Rattle.pm_policy.specs.Sound.{AreOnce, has_ends}
use Rattle.pm_policy.specs.declared.policy.DocProhibition.{DocProhibition}
use Rattle.pm_sound.specs.Groups.{AreRuled}
use Rattle.pm_sound.proofs.Ruled.{associations, prohibitions}
use Rattle.pm_sound.proofs.Told.{broken, told}
use Rattle.pm_sound.proofs.rules.check_rules.Goals as goal

abbrev share_name : DocProhibition → DocProhibition → Bool
share_name p q = bytes_eq p.name q.name

pub returns-in_err-need : goal.returns-in_err-need
returns-in_err-need c =
    let D = c.args.policy.now in
    let fit = associations D c.args.standing.now c.args.rights.now c.requires.elements c.requires.rights c.as_slice-associations.result.now c.as_slice-associations.ensures in
    let p = err_from_is_err_and c.from_residual.result c.from_residual.ensures.1 in
    rw (p.1, p.2) (broken (c.all_associations_fit.result ≡ true) (AreRuled D) c.in_err-need.field-0.0
    (λ h. c.all_associations_fit.ensures ∙ fit.1 h.associations) c.in_err-need.ensures)

pub returns-in_err-need-2 : goal.returns-in_err-need-2
returns-in_err-need-2 c =
    let D = c.args.policy.now in
    let fit = prohibitions D c.args.standing.now c.args.rights.now c.requires.elements c.requires.rights c.as_slice-prohibitions.result.now c.as_slice-prohibitions.ensures in
    let p = err_from_is_err_and c.from_residual-in_err-need-2.result c.from_residual-in_err-need-2.ensures.1 in
    rw (p.1, p.2) (broken (c.all_prohibitions_fit.result ≡ true) (AreRuled D) c.in_err-need-2.field-0.0
    (λ h. c.all_prohibitions_fit.ensures ∙ fit.1 h.prohibitions) c.in_err-need-2.ensures)

pub returns-in_err-check_associated_once : goal.returns-in_err-check_associated_once
returns-in_err-check_associated_once c =
    let D = c.args.policy.now in
    let p = err_from_is_err_and c.from_residual-in_err-check_associated_once.result c.from_residual-in_err-check_associated_once.ensures.1 in
    rw (p.1, p.2) (broken (AreOnce has_ends c.as_slice-associations.result.now) (AreRuled D) c.in_err-check_associated_once.field-0.0
    (λ h. rw c.as_slice-associations.ensures h.associated_once) c.in_err-check_associated_once.ensures)

pub returns : goal.returns
returns c =
    let D = c.args.policy.now in
    let fit = associations D c.args.standing.now c.args.rights.now c.requires.elements c.requires.rights c.as_slice-associations.result.now c.as_slice-associations.ensures in
    let keep = prohibitions D c.args.standing.now c.args.rights.now c.requires.elements c.requires.rights c.as_slice-prohibitions.result.now c.as_slice-prohibitions.ensures in
    told (AreOnce share_name c.as_slice-prohibitions.result.now) (AreRuled D) c.check_once.result (
      λ once. record {
        associated_once = subst (AreOnce has_ends) c.as_slice-associations.ensures c.in_ok-check_associated_once.ensures;
        associations = fit.0 (sym c.all_associations_fit.ensures ∙ c.in_ok-need.ensures);
        prohibited_once = subst (AreOnce share_name) c.as_slice-prohibitions.ensures once;
        prohibitions = keep.0 (sym c.all_prohibitions_fit.ensures ∙ c.in_ok-need-2.ensures);
      },
      λ h. rw c.as_slice-prohibitions.ensures h.prohibited_once,
    ) c.check_once.ensures
