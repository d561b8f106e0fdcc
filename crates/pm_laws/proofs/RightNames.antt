-- The names of rights, where one comes: no name stands twice, and each set of rights keeps its names.
use Rattle.std.proofs.Common.{◌≡◌, ◌≤◌, ◌<◌, ℕ, List, [], ◌∷◌, ◌++◌, length, take, min, false, refl, ap, sym, ◌∙◌, arith, bytes_eq, length-append, inl, inr}
use Rattle.std.specs.List.{list_any}
use Rattle.std.proofs.Math.Pow.{pow_mono}
use Rattle.std.proofs.lemmas.Bool.{or_parts}
use Rattle.std.proofs.lemmas.List.{length-take, take-append-le}
use Rattle.std.proofs.lemmas.List.Elements.{Contains-push_cases}
use Rattle.pm_model.specs.RightSet.{opening_rights, max_rights}
use Rattle.pm_model.specs.Formed.{AreNamed, NameOnce, AreRights}
use Rattle.pm_laws.proofs.Items.{none-at, none-from}
use Rattle.pm_laws.proofs.Names.{other-swapped}

-- where there are more names each set has its names
pub named-more : (rights : List (List ℕ)) (name : List ℕ) (set : ℕ) → AreNamed rights set → AreNamed (rights ++ name ∷ []) set
named-more rights name set h =
    let l = length-append rights (name ∷ []) in
    let longer : length rights ≤ length (rights ++ name ∷ []) = omega (arith, l) in
    let more = pow_mono longer in omega (arith, h, more)

name_once-push : (rights : List (List ℕ)) (name : List ℕ) → NameOnce rights → list_any (bytes_eq name) rights ≡ false →
    NameOnce (rights ++ name ∷ [])
name_once-push [] name h free = (refl, tt)
name_once-push (n ∷ ns) name h free = (others, name_once-push ns name h.1 apart.1) where
  apart : (bytes_eq name n ≡ false) × (list_any (bytes_eq name) ns ≡ false)
  apart = or_parts (bytes_eq name n) (list_any (bytes_eq name) ns) free

  others : list_any (bytes_eq n) (ns ++ name ∷ []) ≡ false
  others = none-from (bytes_eq n) (ns ++ name ∷ []) (λ m c. elim (Contains-push_cases ns name m c) [
    | inl old ↦ none-at (bytes_eq n) ns m h.0 old
    | inr new ↦ rw (← new) (other-swapped name n apart.0)
  ])

opening-length : length opening_rights ≡ 17
unfolding opening_rights
opening-length = refl

-- the opening's names are the first, and there are as many
pub opening-few : (rights : List (List ℕ)) → take 17 rights ≡ opening_rights → 17 ≤ length rights
opening-few rights h =
    let l = length-take 17 rights in
    let same : min 17 (length rights) ≡ 17 = sym l ∙ ap length h ∙ opening-length in omega (arith, same)

-- a right more
pub rights-more : (rights : List (List ℕ)) (name : List ℕ) → AreRights rights → list_any (bytes_eq name) rights ≡ false →
    length rights < max_rights → AreRights (rights ++ name ∷ [])
rights-more rights name h free room = let l = length-append rights (name ∷ []) in record {
  opening = take-append-le 17 rights (name ∷ []) (opening-few rights h.opening) ∙ h.opening;
  once = name_once-push rights name h.once free;
  few = omega (arith, l, room);
}

pub rights-opening : AreRights opening_rights
unfolding opening_rights
rights-opening = record {
  opening = refl;
  once = (refl, (refl, (refl, (refl, (refl, (refl, (refl, (refl, (refl, (refl, (refl, (refl, (refl, (refl, (refl, (refl, (refl, tt)))))))))))))))));
  few = omega arith;
}
