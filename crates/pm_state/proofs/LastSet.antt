-- A last change that is set leaves the kept reviews as they are to be: their numbers and what they are of stay.
use Rattle.std.proofs.Common.{◌≡◌, ◌<◌, ℕ, zero, suc, List, [], ◌∷◌, length, map, Some, inl, inr, slice_get, slice_set, refl, ◌∙◌, ap, subst, arith}
use Rattle.std.specs.List.{list_any}
use Rattle.std.proofs.lemmas.List.{length-set}
use Rattle.std.proofs.lemmas.Option.{slice_get_cases}
use Rattle.pm_model.specs.State.{Graph}
use Rattle.pm_model.specs.KeptReviews.{KeptReview, is_kept_of}
use Rattle.pm_model.specs.Formed.{Each, AreOnceKept, IsKeptReview, AreKept, IsWellFormed}
use Rattle.pm_model.specs.declared.elements.Element.{Element}
use Rattle.pm_model.specs.declared.reviews.Changed.{Changed}
use Rattle.pm_model.specs.declared.reviews.ReviewOf.{ReviewOf}

-- a last change takes the place of another
abbrev pub last_set : ℕ → List Changed → KeptReview → KeptReview
last_set at changed k = record k { at = at; changed = changed }

-- what the table tells of the list: each that stands at the place is as this change makes it
abbrev pub IsSet : List KeptReview → List KeptReview → ℕ → ℕ → List Changed → Type 0
IsSet old new i at changed = (k : KeptReview) → slice_get old i ≡ Some k → new ≡ slice_set old i (last_set at changed k)

module _ (at : ℕ) (changed : List Changed) (k : KeptReview) where
  numbers-set : (ks : List KeptReview) (i : ℕ) → slice_get ks i ≡ Some k →
      map (λ (j : KeptReview). j.number) (slice_set ks i (last_set at changed k)) ≡ map (λ (j : KeptReview). j.number) ks
  numbers-set [] i here = refl
  numbers-set (j ∷ ks) zero here = let same : j ≡ k = cc in rw same refl
  numbers-set (j ∷ ks) (suc i) here = ap (λ ns. j.number ∷ ns) (numbers-set ks i here)

  pub any-set : (of : ReviewOf ℕ) (ks : List KeptReview) (i : ℕ) → slice_get ks i ≡ Some k →
      list_any (is_kept_of of) (slice_set ks i (last_set at changed k)) ≡ list_any (is_kept_of of) ks
  any-set of [] i here = refl
  any-set of (j ∷ ks) zero here = let same : j ≡ k = cc in rw same refl
  any-set of (j ∷ ks) (suc i) here = rw (any-set of ks i here) refl

  once-set : (ks : List KeptReview) (i : ℕ) → slice_get ks i ≡ Some k → AreOnceKept ks → AreOnceKept (slice_set ks i (last_set at changed k))
  once-set [] i here h = h
  once-set (j ∷ ks) zero here h = let same : j ≡ k = cc in rw same at h
  once-set (j ∷ ks) (suc i) here h = (any-set j.of ks i here ∙ h.0, once-set ks i here h.1)

  each-set : (es : List Element) (ks : List KeptReview) (i : ℕ) → slice_get ks i ≡ Some k → Each (IsKeptReview es) ks →
      Each (IsKeptReview es) (slice_set ks i (last_set at changed k))
  each-set es [] i here h = h
  each-set es (j ∷ ks) zero here h =
      let same : j ≡ k = cc in
      let first : IsKeptReview es k = subst (IsKeptReview es) same h.0 in
      (record { live = first.live; kinds = first.kinds }, h.1)
  each-set es (j ∷ ks) (suc i) here h = (h.0, each-set es ks i here h.1)

  kept-here : (es : List Element) (ks : List KeptReview) (i : ℕ) → slice_get ks i ≡ Some k → AreKept es ks →
      AreKept es (slice_set ks i (last_set at changed k))
  kept-here es ks i here h = record {
    numbered = rw (numbers-set ks i here) h.numbered;
    once = once-set ks i here h.once;
    each = each-set es ks i here h.each;
    few = rw (length-set ks i (last_set at changed k)) h.few;
  }

kept-set : (es : List Element) (old new : List KeptReview) (i at : ℕ) (changed : List Changed) → i < length old → IsSet old new i at changed →
    AreKept es old → AreKept es new
kept-set es old new i at changed within set h = elim ((slice_get_cases old i).1) [
  | inl here ↦ rw (set here.0 here.2) (kept-here at changed here.0 es old i here.2 h)
  | inr past ↦ absurd (omega (arith, within, past.0))
]

pub formed-set : (G : Graph) (new : List KeptReview) (i at : ℕ) (changed : List Changed) → i < length G.kept → IsSet G.kept new i at changed →
    IsWellFormed G → IsWellFormed (record G { kept = new })
formed-set G new i at changed within set f = record {
  elements = f.elements;
  assigned = f.assigned;
  associations = f.associations;
  prohibitions = f.prohibitions;
  obligations = f.obligations;
  rights = f.rights;
  procs = f.procs;
  kept = kept-set G.elements G.kept new i at changed within set f.kept;
  opening = f.opening;
}
