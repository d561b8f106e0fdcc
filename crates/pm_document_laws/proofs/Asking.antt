-- The requests of a sound document that has the forms of lines can be asked for by lines.
use Rattle.std.proofs.Common.{◌≡◌, ℕ, true, List, Option, None, Some, Contains, refl, sym, ◌∙◌, subst, arith}
use Rattle.pm_laws.proofs.Items.{each-at, each-from, each-map, find-found}
use Rattle.std.proofs.lemmas.List.Elements.{Contains-append_right}
use Rattle.pm_document.specs.Forms.{policy_of}
use Rattle.pm_model.specs.Effect.{may_assign}
use Rattle.pm_model.specs.Formed.{Each}
use Rattle.pm_model.specs.declared.elements.Kind.{Kind}
use Rattle.pm_model.specs.declared.elements.Kind.TheVariants.{User, Ua, Object, Oa, Pc}
use Rattle.pm_policy.specs.Order.{leads_before}
use Rattle.pm_policy.specs.Policy.{called, is_assigned, opening_docs, standing}
use Rattle.pm_policy.specs.Requests.{asked, by_name, commands, created_in, first_assignment, requests}
use Rattle.pm_policy.specs.Sound.{FitAssigned, IsSound}
use Rattle.pm_policy.specs.declared.policy.DocAssignment.{DocAssignment}
use Rattle.pm_policy.specs.declared.policy.DocElement.{DocElement}
use Rattle.pm_policy.specs.declared.policy.Policy.{Policy}
use Rattle.pm_policy.proofs.Fitting.{both-called}
use Rattle.pm_policy.proofs.Ordered.{called-once, same-name}
use Rattle.pm_policy.proofs.Sorted.{has-sorted}
use Rattle.pm_print.specs.Askable.{IsAskable, IsCommand, IsContained}
use Rattle.pm_making.specs.Accepted.{Make}
use Rattle.pm_making.proofs.Accepted.{lines_make}
use Rattle.pm_document_laws.proofs.Commands.{each_command}
use Rattle.pm_document_laws.proofs.Fair.{policy_fair, IsAssignment, IsElement, IsFair}

-- what may be assigned is no class
no-class : (a b : Kind) → may_assign a b ≡ true → IsContained a
no-class User b h = tt
no-class Ua b h = tt
no-class Object b h = tt
no-class Oa b h = tt
no-class Pc User h = absurd (cc)
no-class Pc Ua h = absurd (cc)
no-class Pc Object h = absurd (cc)
no-class Pc Oa h = absurd (cc)
no-class Pc Pc h = absurd (cc)

module _ (D : Policy) (sound : IsSound D) (fair : IsFair D) where
  -- an element with an assignment is no class
  kind-fits : (e : DocElement) (p : DocAssignment) → Contains D.elements e → Contains D.assignments p → e.name ≡ p.from → IsContained e.kind
  kind-fits e p c d named =
      let b = both-called may_assign (called (standing D.elements) p.from) (called (standing D.elements) p.to)
      (each-at (FitAssigned (standing D.elements)) D.assignments p sound.elements.kinds d) in
      let it : called (standing D.elements) p.from ≡ Some e = subst (λ n. called (standing D.elements) n ≡ Some e) named
      (called-once (standing D.elements) e sound.elements.once (Contains-append_right opening_docs D.elements e c)) in
      let both : Some e ≡ Some b.0 = sym it ∙ b.2 in
      let same : b.0 ≡ e = cc in
      no-class e.kind b.1.kind (subst (λ (x : DocElement). may_assign x.kind b.1.kind ≡ true) same b.4)

  created : (e : DocElement) → Contains D.elements e → (o : Option DocAssignment) → first_assignment (by_name D) e.name ≡ o → IsCommand (created_in e o)
  created e c None is = each-at IsElement D.elements e fair.elements c
  created e c (Some p) is =
      let f = find-found (is_assigned e.name) (by_name D) p is in
      let there = has-sorted leads_before D.assignments p f.0 in
      (kind-fits e p c there (same-name e.name p.from f.1), each-at IsElement D.elements e fair.elements c, (each-at IsAssignment D.assignments p fair.assignments there).1)

  all : Each IsCommand (commands D)
  all = each_command D IsCommand fair.rights (λ e c. created e c (first_assignment (by_name D) e.name) refl) fair.assignments fair.associations fair.prohibitions

  pub askable : Each IsAskable (requests D)
  askable = each-map IsAskable asked (commands D) (each-from (λ c. IsAskable (asked c)) (commands D) (λ c i. record {
    after_fits = tt;
    asks = (omega arith, each-at IsCommand (commands D) c all i);
  }))

pub requests_are_askable : (bytes : List ℕ) (D : Policy) → policy_of bytes ≡ Some D → IsSound D → Each IsAskable (requests D)
requests_are_askable bytes D is sound = askable D sound (policy_fair bytes D is)

pub document_is_made : (bytes : List ℕ) (D : Policy) → policy_of bytes ≡ Some D → IsSound D → (lines : List (List ℕ)) × Make D lines
document_is_made bytes D is sound = lines_make D sound (requests_are_askable bytes D is sound)
