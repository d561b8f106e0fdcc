-- Edits of a list at a place, and what stays in front of it.
use Rattle.std.proofs.Common.{◌≡◌, ℕ, zero, suc, List, [], ◌∷◌, length, slice_get, set, remove, Some, true, false, ◌==◌, refl, sym, ap, ◌∙◌}
use Rattle.pm_model.specs.declared.rights.Grantee.{Grantee}
use Rattle.pm_assoc.specs.Grantees.{edited, without_empty}

module _ {X : Type 0} where
  set-read : (f : X → X) (xs : List X) (i : ℕ) (x : X) → slice_get xs i ≡ Some x → set xs i (f x) ≡ edited f i xs
  set-read f [] i x read = cc
  set-read f (y ∷ xs) zero x read = let same : y ≡ x = cc in ap (λ z. f z ∷ xs) (sym same)
  set-read f (y ∷ xs) (suc i) x read = ap (λ zs. y ∷ zs) (set-read f xs i x read)

  -- a write of what the change makes of the item there
  pub set-edited : (f : X → X) (xs ys : List X) (i : ℕ) (x y : X) → ys ≡ xs → slice_get ys i ≡ Some x → y ≡ f x → set ys i y ≡ edited f i xs
  set-edited f xs ys i x y same read is = ap (set ys i) is ∙ set-read f ys i x read ∙ ap (edited f i) same

  set-as_read : (xs : List X) (i : ℕ) (x : X) → slice_get xs i ≡ Some x → set xs i x ≡ xs
  set-as_read [] i x read = refl
  set-as_read (y ∷ xs) zero x read = let same : y ≡ x = cc in ap (λ z. z ∷ xs) (sym same)
  set-as_read (y ∷ xs) (suc i) x read = ap (λ zs. y ∷ zs) (set-as_read xs i x read)

  -- a write of what stands there
  pub set-same : (xs ys : List X) (i : ℕ) (x y : X) → ys ≡ xs → slice_get ys i ≡ Some x → y ≡ x → set ys i y ≡ xs
  set-same xs ys i x y same read is = ap (set ys i) is ∙ set-as_read ys i x read ∙ same

pub remove-empty : (gs : List Grantee) (i : ℕ) (g : Grantee) → slice_get gs i ≡ Some g → (length g.grants == 0) ≡ true → remove gs i ≡ without_empty i gs
remove-empty [] i g read none = cc
remove-empty (x ∷ gs) zero g read none =
    let same : x ≡ g = cc in
    let empty : (length x.grants == 0) ≡ true = rw same none in rw empty refl
remove-empty (x ∷ gs) (suc i) g read none = ap (λ zs. x ∷ zs) (remove-empty gs i g read none)

pub keep-full : (gs : List Grantee) (i : ℕ) (g : Grantee) → slice_get gs i ≡ Some g → (length g.grants == 0) ≡ false → gs ≡ without_empty i gs
keep-full [] i g read some = refl
keep-full (x ∷ gs) zero g read some =
    let same : x ≡ g = cc in
    let full : (length x.grants == 0) ≡ false = rw same some in rw full refl
keep-full (x ∷ gs) (suc i) g read some = ap (λ zs. x ∷ zs) (keep-full gs i g read some)
