-- The rules as tests, and all rules together.
use Rattle.std.proofs.Common.{◌≡◌, ◌↔◌, ◌&&◌, ◌==◌, ◌++◌, ℕ, Bool, true, false, not, List, length, bytes_eq, refl}
use Rattle.std.specs.List.{list_any, list_all}
use Rattle.std.proofs.lemmas.Bool.{and_parts, and_from}
use Rattle.pm_model.specs.Effect.{is_place_kind, may_associate}
use Rattle.pm_model.specs.Formed.{Each}
use Rattle.pm_model.specs.RightSet.{opening_rights}
use Rattle.pm_model.specs.declared.prohibitions.Subject.{Subject}
use Rattle.pm_model.specs.declared.prohibitions.Subject.TheVariants as subject
use Rattle.pm_policy.specs.Policy.{called, standing}
use Rattle.pm_policy.specs.Sound.{AreSound, FitsSubject, IsAssociation, IsProhibition, IsSound, both, has_kind}
use Rattle.pm_policy.specs.declared.policy.DocElement.{DocElement}
use Rattle.pm_policy.specs.declared.policy.DocAssociation.{DocAssociation}
use Rattle.pm_policy.specs.declared.policy.DocProhibition.{DocProhibition}
use Rattle.pm_policy.specs.declared.policy.Policy.{Policy}
use Rattle.pm_sound.specs.Groups.{AreDefined, AreFew, AreRuled}
use Rattle.pm_sound.specs.Tests.{are_places, are_rights, fits_association, fits_prohibition, is_subject}
use Rattle.pm_sound.proofs.Told.{each-test, each-true}

-- ---- tests

named : (rights names : List (List ℕ)) → (are_rights rights names ≡ true) ↔ Each (λ name. list_any (bytes_eq name) rights ≡ true) names
named rights names = each-true (λ name. list_any (bytes_eq name) rights) names

places : (es : List DocElement) (names : List (List ℕ)) → (are_places es names ≡ true) ↔ Each (λ name. has_kind is_place_kind (called es name) ≡ true) names
places es names = each-true (λ name. has_kind is_place_kind (called es name)) names

subjects : (es : List DocElement) (s : Subject (List ℕ) ℕ) → (is_subject es s ≡ true) ↔ FitsSubject es s
subjects es (subject.User name) = (λ h. h, λ h. h)
subjects es (subject.Ua name) = (λ h. h, λ h. h)
subjects es (subject.Process n) = (λ h. absurd (cc), λ h. absurd h)

negated : (b : Bool) → (not b ≡ true) ↔ (b ≡ false)
negated true = (λ h. absurd (cc), λ h. absurd (cc))
negated false = (λ h. refl, λ h. refl)

record AreFive (a b c d e : Bool) : Type 0 where
  pub first : a ≡ true
  pub second : b ≡ true
  pub third : c ≡ true
  pub fourth : d ≡ true
  pub fifth : e ≡ true

five : (a b c d e : Bool) → (a && b && c && d && e) ≡ true → AreFive a b c d e
five true true true true true h = record { first = refl; second = refl; third = refl; fourth = refl; fifth = refl }
five false b c d e h = absurd (cc)
five true false c d e h = absurd (cc)
five true true false d e h = absurd (cc)
five true true true false e h = absurd (cc)
five true true true true false h = absurd (cc)

five-from : (a b c d e : Bool) → a ≡ true → b ≡ true → c ≡ true → d ≡ true → e ≡ true → (a && b && c && d && e) ≡ true
five-from a b c d e ha hb hc hd he = rw (ha, hb, hc, hd, he) refl

association : (D : Policy) (a : DocAssociation) → (fits_association (standing D.elements) (opening_rights ++ D.rights) a ≡ true) ↔ IsAssociation D a
association D a = (
  λ h. let p = and_parts joins (are_rights rights a.rights) h in record { kinds = p.0; rights = (named rights a.rights).0 p.1 },
  λ h. and_from joins (are_rights rights a.rights) h.kinds ((named rights a.rights).1 h.rights),
) where
  rights : List (List ℕ)
  rights = opening_rights ++ D.rights

  joins : Bool
  joins = both may_associate (called (standing D.elements) a.ua) (called (standing D.elements) a.at)

prohibition : (D : Policy) (p : DocProhibition) → (fits_prohibition (standing D.elements) (opening_rights ++ D.rights) p ≡ true) ↔ IsProhibition D p
prohibition D p = (
  λ h. let q = five (is_subject es p.subject) (are_rights rights p.rights) (are_places es p.inc) (are_places es p.exc) (not (length p.inc == 0 && length p.exc == 0)) h in
      record {
        subject = (subjects es p.subject).0 q.first;
        rights = (named rights p.rights).0 q.second;
        inc = (places es p.inc).0 q.third;
        exc = (places es p.exc).0 q.fourth;
        ranged = (negated (length p.inc == 0 && length p.exc == 0)).0 q.fifth;
      },
  λ h. five-from (is_subject es p.subject) (are_rights rights p.rights) (are_places es p.inc) (are_places es p.exc) (not (length p.inc == 0 && length p.exc == 0))
      ((subjects es p.subject).1 h.subject) ((named rights p.rights).1 h.rights) ((places es p.inc).1 h.inc) ((places es p.exc).1 h.exc)
      ((negated (length p.inc == 0 && length p.exc == 0)).1 h.ranged),
) where
  rights : List (List ℕ)
  rights = opening_rights ++ D.rights

  es : List DocElement
  es = standing D.elements

-- over these elements and names of rights
module _ (D : Policy) (es : List DocElement) (rights : List (List ℕ)) (stand : es ≡ standing D.elements) (named : rights ≡ opening_rights ++ D.rights) where
  pub associations : (list : List DocAssociation) → list ≡ D.associations → (list_all (fits_association es rights) list ≡ true) ↔ Each (IsAssociation D) D.associations
  associations list same =
      rw (stand, named, same) (each-test (fits_association (standing D.elements) (opening_rights ++ D.rights)) (IsAssociation D) (association D) D.associations)

  pub prohibitions : (list : List DocProhibition) → list ≡ D.prohibitions → (list_all (fits_prohibition es rights) list ≡ true) ↔ Each (IsProhibition D) D.prohibitions
  prohibitions list same =
      rw (stand, named, same) (each-test (fits_prohibition (standing D.elements) (opening_rights ++ D.rights)) (IsProhibition D) (prohibition D) D.prohibitions)

-- ---- all rules together

pub sound-few : (D : Policy) → IsSound D → AreFew D
sound-few D s = record {
  elements = s.elements.few;
  assignments = s.elements.few_assigned;
  associations = s.few_associations;
  prohibitions = s.few_prohibitions;
}

pub sound-defined : (D : Policy) → IsSound D → AreDefined D.rights
sound-defined D s = record { once = s.rights_once; no_words = s.no_words; few = s.few_rights }

pub sound-ruled : (D : Policy) → IsSound D → AreRuled D
sound-ruled D s = record {
  associated_once = s.associated_once;
  associations = s.associations;
  prohibited_once = s.prohibited_once;
  prohibitions = s.prohibitions;
}

pub sound : (D : Policy) → AreFew D → AreSound D.elements D.assignments → AreDefined D.rights → AreRuled D → IsSound D
sound D few elements defined ruled = record {
  elements = elements;
  rights_once = defined.once;
  no_words = defined.no_words;
  few_rights = defined.few;
  associated_once = ruled.associated_once;
  associations = ruled.associations;
  few_associations = few.associations;
  prohibited_once = ruled.prohibited_once;
  prohibitions = ruled.prohibitions;
  few_prohibitions = few.prohibitions;
}
