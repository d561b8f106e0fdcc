use Rattle.std.proofs.Common.{◌≡◌, ◌∙◌, List, map, sym, ap, subst}
use Rattle.std.proofs.lemmas.Result.{IfOk-weaker}
use Rattle.pm_model.specs.Formed.{Each}
use Rattle.pm_model.specs.declared.rights.Association.{Association}
use Rattle.pm_by_name.specs.Keyed.{cmp_both, goes_first, has_key_of}
use Rattle.pm_by_name.specs.declared.by_name.ByBytes.{ByBytes}
use Rattle.pm_policy.specs.Order.{sorted}
use Rattle.pm_policy.specs.Requests.{joins_before}
use Rattle.pm_policy.specs.Sound.{AreOnce}
use Rattle.pm_policy.specs.declared.policy.DocAssociation.{DocAssociation}
use Rattle.pm_drawing.specs.Gathered.{JoinsLive, association_named, ends_entry}
use Rattle.pm_drawing.proofs.Ends.{ends-live, ends-once, ends-sorted}
use Rattle.pm_drawing.proofs.associations.by_ends.Goals as goal

pub values_by_key-requires : goal.values_by_key-requires
values_by_key-requires c =
    subst (λ l. AreOnce (has_key_of cmp_both) l) (sym (c.as_slice.ensures.value ∙ c.in_ok-entries.ensures))
    (ends-once c.args.elements.now.elements c.args.rights.now c.args.associations.now c.requires.once)

pub documents-requires-clause-live : goal.documents-requires-clause-live
documents-requires-clause-live c =
    let same : c.as_slice.result.now ≡ map (ends_entry c.args.elements.now.elements) c.args.associations.now = c.as_slice.ensures.value ∙ c.in_ok-entries.ensures in
    subst (λ l. Each (JoinsLive c.args.elements.now.elements) l)
    (sym (c.as_slice-2.ensures.value ∙ c.in_ok-sorted.ensures ∙ ap (λ l. map (λ (e : (ByBytes × ByBytes) × Association). e.1) (sorted (goes_first cmp_both) l)) same))
    (ends-live c.args.elements.now.elements c.args.associations.now c.requires.live)

pub returns : goal.returns
returns c =
    let es = c.args.elements.now.elements in
    let same : c.as_slice.result.now ≡ map (ends_entry es) c.args.associations.now = c.as_slice.ensures.value ∙ c.in_ok-entries.ensures in
    let values = c.as_slice-2.ensures.value ∙ c.in_ok-sorted.ensures ∙ ap (λ l. map (λ (e : (ByBytes × ByBytes) × Association). e.1) (sorted (goes_first cmp_both) l)) same in
    IfOk-weaker c.documents.result (λ (list : List DocAssociation). list ≡ map (association_named es c.args.rights.now) c.as_slice-2.result.now)
    (λ (list : List DocAssociation). list ≡ sorted joins_before (map (association_named es c.args.rights.now) c.args.associations.now))
    (λ list is. is ∙ ap (λ l. map (association_named es c.args.rights.now) l) values ∙ ends-sorted es c.args.rights.now c.args.associations.now)
    c.documents.ensures
