-- Names are looked up as places, one after another.
use Rattle.std.proofs.Common.{◌≡◌, ◌+◌, ℕ, List, [], ◌∷◌, ◌++◌, drop, slice_get, Some, Result, Ok, Err, refl, sym, ap, ◌∙◌}
use Rattle.std.proofs.lemmas.List.{append-nil, append_assoc}
use Rattle.pm_model.specs.Results.{and_then}
use Rattle.pm_model.specs.State.{Graph}
use Rattle.pm_model.specs.Resolve.{look_up, look_up_all}
use Rattle.pm_model.specs.declared.replies.Refusal.{Refusal}
use Rattle.pm_model.proofs.Walks.{drop-item}

-- the places of the rest behind these
abbrev pub behind : List ℕ → Result (List ℕ) Refusal → Result (List ℕ) Refusal
behind xs rest = and_then rest (λ ys. Ok (xs ++ ys))

-- the places so far, and what the names from place i on give
abbrev pub AreFound : Graph → List (List ℕ) → ℕ → List ℕ → Type 0
AreFound G names i xs = look_up_all G names ≡ behind xs (look_up_all G (drop i names))

pub found-first : (G : Graph) (names : List (List ℕ)) → AreFound G names 0 []
found-first G names = of (look_up_all G names) where
  of : (r : Result (List ℕ) Refusal) → r ≡ behind [] r
  of (Ok xs) = refl
  of (Err why) = refl

behind-more : (xs : List ℕ) (x : ℕ) (r : Result (List ℕ) Refusal) → behind xs (and_then r (λ ys. Ok (x ∷ ys))) ≡ behind (xs ++ x ∷ []) r
behind-more xs x (Ok ys) = ap Ok (sym (append_assoc xs (x ∷ []) ys))
behind-more xs x (Err why) = refl

pub found-more : (G : Graph) (names : List (List ℕ)) (i : ℕ) (name : List ℕ) (x : ℕ) (xs : List ℕ) → AreFound G names i xs →
    slice_get names i ≡ Some name → look_up G name ≡ Ok x → AreFound G names (i + 1) (xs ++ x ∷ [])
found-more G names i name x xs h at is =
    h ∙ ap (λ ns. behind xs (look_up_all G ns)) (drop-item names i name at)
    ∙ ap (λ r. behind xs (and_then r (λ y. and_then (look_up_all G (drop (i + 1) names)) (λ ys. Ok (y ∷ ys))))) is
    ∙ behind-more xs x (look_up_all G (drop (i + 1) names))

pub found-not : (G : Graph) (names : List (List ℕ)) (i : ℕ) (name : List ℕ) (why : Refusal) (xs : List ℕ) → AreFound G names i xs →
    slice_get names i ≡ Some name → look_up G name ≡ Err why → look_up_all G names ≡ Err why
found-not G names i name why xs h at is =
    h ∙ ap (λ ns. behind xs (look_up_all G ns)) (drop-item names i name at)
    ∙ ap (λ r. behind xs (and_then r (λ y. and_then (look_up_all G (drop (i + 1) names)) (λ ys. Ok (y ∷ ys))))) is

pub found-all : (G : Graph) (names : List (List ℕ)) (i : ℕ) (xs : List ℕ) → AreFound G names i xs → drop i names ≡ [] →
    look_up_all G names ≡ Ok xs
found-all G names i xs h none = h ∙ ap (λ ns. behind xs (look_up_all G ns)) none ∙ ap Ok (append-nil xs)
