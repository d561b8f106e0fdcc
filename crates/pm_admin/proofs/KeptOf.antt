-- What a kept review is of, as the table finds it by its number.
use Rattle.std.proofs.Common.{◌≡◌, ℕ, [], ◌∷◌, Option, Some, None, option_map, refl, subst}
use Rattle.pm_model.specs.State.{Graph}
use Rattle.pm_model.specs.Authority.{kept_of, to_review}
use Rattle.pm_model.specs.Formed.{IsLive, IsWellFormed}
use Rattle.pm_model.specs.KeptReviews.{KeptReview, kept_at, subject}
use Rattle.pm_model.specs.declared.reviews.ReviewOf.{ReviewOf}
use Rattle.pm_laws.proofs.KeptReviews.{kept-live}

abbrev pub of_found : Option KeptReview → Option (ReviewOf ℕ)
of_found o = option_map (λ (k : KeptReview). k.of) o

some-found : (o : Option KeptReview) (of : ReviewOf ℕ) → Some of ≡ of_found o → (k : KeptReview) × (o ≡ Some k) × (k.of ≡ of)
some-found None of h = absurd (cc)
some-found (Some k) of h = (k, refl, cc)

module _ (G : Graph) (n : ℕ) where
  pub found-live : (of : ReviewOf ℕ) → IsWellFormed G → Some of ≡ of_found (kept_at G.kept n) → IsLive G.elements (subject of)
  found-live of f h =
      let p = some-found (kept_at G.kept n) of h in
      subst (λ (r : ReviewOf ℕ). IsLive G.elements (subject r)) p.2 (kept-live G.elements G.kept n p.0 f.kept p.1)

  pub found-asks : (of : ReviewOf ℕ) → Some of ≡ of_found (kept_at G.kept n) → kept_of (kept_at G.kept n) ≡ (to_review, subject of) ∷ []
  found-asks of h = let p = some-found (kept_at G.kept n) of h in rw (p.1, p.2) refl
