-- The examples, computed.
use Rattle.std.proofs.Common.{◌≡◌, ℕ, List, [], ◌∷◌, Contains, Some, None, true, false, refl, sym, subst, arith, ◌⊎◌, inl, inr, bytes_eq}
use Rattle.std.specs.Prelude.{codes}
use Rattle.pm_model.specs.Containment.{contained}
use Rattle.pm_model.specs.Decision.{covers}
use Rattle.pm_model.specs.Words.{word_text}
use Rattle.pm_model.specs.RightSet.{opening_rights, commands}
use Rattle.pm_model.specs.Answer.{answer}
use Rattle.pm_model.specs.Formed.{Each}
use Rattle.pm_model.specs.declared.prohibitions.Prohibition.{Prohibition}
use Rattle.pm_model.specs.declared.replies.Reason.TheVariants.{Class}
use Rattle.pm_model.specs.declared.replies.Reason.TheVariants as reason
use Rattle.pm_model.proofs.ContainmentLaws.{containment_is_path}
use Rattle.pm_laws.proofs.Items.{contains-cases, contains-none}
use Rattle.pm_denials.specs.Reasons.{HasCause}
use Rattle.pm_denials.specs.Examples.{seal, hospital, denials, causes, no_causes}
use Rattle.pm_denials.proofs.Causes.{denied_exactly}

pub examples_denied : Each (λ row. (answer (record { graph = hospital; version = 0 }) (record { after = None; body = row.0 })).reply ≡ row.1) denials
unfolding contained opening_rights commands word_text
examples_denied = (refl, (refl, (refl, (refl, (refl, (refl, (refl, tt)))))))

pub examples_caused : Each (λ row. HasCause hospital 6 (Some 1) row.0 row.1 row.2) causes
unfolding contained
examples_caused = (
  record {
    is_class = (0, omega arith, refl);
    contains = (8 ∷ 0 ∷ [], ((6, omega arith, refl), ((7, omega arith, refl), refl)));
    lacks = (refl, tt);
    first = ([], 3 ∷ [], refl, refl, tt);
  },
  (
    record {
      prohibition = _;
      named = refl;
      stands = (0, omega arith, refl);
      applies = refl;
      covers = refl;
      first = ([], [], refl, refl, tt);
      privileged = refl;
    },
    tt,
  ),
)

-- the seal is the one prohibition
only-seal : (p : Prohibition) → Contains hospital.prohibitions p → seal ≡ p
only-seal p c = elim (contains-cases seal p [] c) [ inl same ↦ same | inr none ↦ contains-none p none ]

unsealed : (r e : ℕ) (name : List ℕ) → covers (contained hospital.assigned) r e seal ≡ false → HasCause hospital 6 (Some 1) r e (reason.Prohibition name) → ⊥
unsealed r e name outside h =
    let same = only-seal h.prohibition h.stands in
    let inside : covers (contained hospital.assigned) r e seal ≡ true =
    subst (λ (p : Prohibition). covers (contained hospital.assigned) r e p ≡ true) (sym same) h.covers in cc

classes-two : (c : ℕ) → Contains (0 ∷ 3 ∷ []) c → (0 ≡ c) ⊎ (3 ≡ c)
classes-two c h = elim (contains-cases 0 c (3 ∷ []) h) [
  | inl first ↦ inl first
  | inr rest ↦ elim (contains-cases 3 c [] rest) [ inl second ↦ inr second | inr none ↦ contains-none c none ]
]

other-name : codes "seal" ≡ codes "lock" → ⊥
other-name same = let no : false ≡ true = subst (λ n. bytes_eq (codes "seal") n ≡ true) same refl in cc

pub examples_uncaused : Each (λ row. HasCause hospital 6 (Some 1) row.0 row.1 row.2 → ⊥) no_causes
unfolding contained
examples_uncaused = (
  λ h. let no : true ≡ false = h.lacks.0 in cc,
  (
    λ h. let no : false ≡ true = (containment_is_path hospital.assigned 9 0).1 h.contains in cc,
    (
      λ h. elim (classes-two 5 h.is_class) [ inl zero ↦ omega (arith, zero) | inr three ↦ omega (arith, three) ],
      (
        λ h. let no : Some (Class 0) ≡ Some (Class 3) = (denied_exactly hospital 6 (Some 1) 1 7 (Class 3)).1 (λ spared. let root = spared.0 in omega (arith, root), h) in cc,
        (
          unsealed 0 9 (codes "seal") refl,
          (
            unsealed 1 11 (codes "seal") refl,
            (
              λ h. let same = only-seal h.prohibition h.stands in other-name (subst (λ (p : Prohibition). p.name ≡ codes "lock") (sym same) h.named),
              (λ h. let no : true ≡ false = h.lacks.0 in cc, tt),
            ),
          ),
        ),
      ),
    ),
  ),
)
