-- A verdict tells the reason of a denial.
use Rattle.std.proofs.Common.{◌≡◌, ℕ, Bool, List, Option, refl, inl, inr}
use Rattle.std.proofs.lemmas.Option.{slice_get_within}
use Rattle.pm_model.specs.Authority.{reason_of}
use Rattle.pm_model.specs.Decision.{lacking, forbidding}
use Rattle.pm_model.specs.declared.prohibitions.Prohibition.{Prohibition}
use Rattle.pm_model.specs.declared.rights.Association.{Association}
use Rattle.pm_decide.specs.Verdict.{decision}
use Rattle.pm_decide.specs.Meaning.{Says}
use Rattle.pm_decide.specs.declared.verdict.Verdict.{Verdict}
use Rattle.pm_decide.specs.declared.verdict.Verdict.TheVariants.{Granted, NoClass, Prohibited}
use Rattle.pm_decide.proofs.Meaning.{classes-asked, prohibitions-asked, decision-said}
use Rattle.pm_admin.specs.Verdicts.{reason_by, IsPlaced}

module _ (below : ℕ → ℕ → Bool) (associations : List Association) (ps : List Prohibition) (classes : List ℕ) (u : ℕ) (q : Option ℕ) (r e : ℕ) where
  -- the reason by the verdict is that of the definition
  pub reason-is : reason_by ps (decision below associations ps classes u q r e)
      ≡ reason_of (lacking below associations classes u r e) (forbidding below ps u q r e)
  reason-is = elim (classes-asked below associations u r e classes) [
    | inl met ↦ elim (prohibitions-asked below u q r e ps) [
      | inl free ↦ rw (met.0, free.0, free.1) refl
      | inr bar ↦ rw (met.0, bar.2, bar.3, bar.4.there) refl
    ]
    | inr lack ↦ rw (lack.2) refl
  ]

  -- a prohibition that is named is one of the list
  pub verdict-placed : IsPlaced ps (decision below associations ps classes u q r e)
  verdict-placed = of (decision below associations ps classes u q r e) (decision-said below associations ps classes u q r e) where
    of : (v : Verdict) → Says below associations ps classes u q r e v → IsPlaced ps v
    of Granted said = tt
    of (NoClass pc) said = tt
    of (Prohibited i) said = slice_get_within ps i said.1 said.2.there
