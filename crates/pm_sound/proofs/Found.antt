-- Elements are found in a map from names to kinds as in a list.
use Rattle.std.proofs.Common.{◌≡◌, ◌<◌, ◌+◌, ℕ, Bool, true, false, List, [], ◌∷◌, ◌++◌, arith, map, None, Some, option_map, bytes_eq, refl, sym, ap, ◌∙◌, subst, inl, inr, take, drop, get_or, length, zero, suc, slice_get}
use Rattle.std.specs.List.{list_any, position_from}
use Rattle.std.specs.Map.{keys_of, lookup}
use Rattle.std.specs.Option.{is_some}
use Rattle.std.proofs.lemmas.Bool.{cases_Bool, or_parts}
use Rattle.std.proofs.lemmas.Option.{get_or_from_slice_get, slice_get_within}
use Rattle.indexmap.specs.IndexMap.{insert_entry}
use Rattle.pm_model.specs.declared.elements.Kind.{Kind}
use Rattle.pm_model.specs.declared.elements.Kind.TheVariants.{Pc}
use Rattle.pm_laws.proofs.Items.{get-contains, none-at}
use Rattle.pm_laws.proofs.Names.{other-swapped}
use Rattle.pm_order.specs.Ranked.{place}
use Rattle.pm_order.proofs.Placed.{place-at}
use Rattle.pm_policy.specs.Order.{is_made}
use Rattle.pm_policy.specs.Policy.{called, doc_element, is_called}
use Rattle.pm_policy.proofs.Ordered.{name-itself, same-name}
use Rattle.pm_policy.specs.Sound.{AreOnceCalled}
use Rattle.pm_policy.specs.declared.policy.DocElement.{DocElement}
use Rattle.pm_sound.specs.Entries.{element}
use Rattle.pm_sound.proofs.Twice.{bytes-swapped, once-apart, once-push, parted, pushed}

pub found : (name : List ℕ) (es : List (List ℕ × Kind)) → called (map element es) name ≡ option_map (λ kind. doc_element kind name) (lookup (bytes_eq name) es)
found name [] = refl
found name (e ∷ es) = elim (cases_Bool (bytes_eq name e.0)) [
  | inl is ↦ rw is (ap (λ n. Some (doc_element e.1 n)) (sym (same-name name e.0 is)))
  | inr other ↦ rw other (found name es)
]

-- an element whose name is free stands behind the others
pub put : (es : List (List ℕ × Kind)) (name : List ℕ) (kind : Kind) → is_made (map element es) name ≡ false →
    map element (insert_entry bytes_eq es name kind) ≡ map element es ++ doc_element kind name ∷ []
put [] name kind free = refl
put (e ∷ es) name kind free =
    let parts = or_parts (bytes_eq name e.0) (is_made (map element es) name) free in
    rw parts.0 (ap (λ l. element e ∷ l) (put es name kind parts.1))

-- a name is found exactly where one of the elements has it
pub looked_up : (name : List ℕ) (es : List (List ℕ × Kind)) → is_some (lookup (bytes_eq name) es) ≡ is_made (map element es) name
looked_up name [] = refl
looked_up name (e ∷ es) = elim (cases_Bool (bytes_eq name e.0)) [
  | inl is ↦ rw is refl
  | inr other ↦ rw other (looked_up name es)
]

-- with its place
pub found_kind : (name : List ℕ) (es : List (List ℕ × Kind)) (kind : Kind) → lookup (bytes_eq name) es ≡ Some kind → called (map element es) name ≡ Some (doc_element kind name)
found_kind name es kind is = found name es ∙ ap (λ o. option_map (λ k. doc_element k name) o) is

pub found_none : (name : List ℕ) (es : List (List ℕ × Kind)) → lookup (bytes_eq name) es ≡ None → called (map element es) name ≡ None
found_none name es is = found name es ∙ ap (λ o. option_map (λ k. doc_element k name) o) is

-- the place of a name among the keys is that of its element
pub found_place : (name : List ℕ) (i : ℕ) (es : List (List ℕ × Kind)) (k : ℕ) → position_from (bytes_eq name) i (keys_of es) ≡ Some k → k ≡ i + place (map element es) name
found_place name i [] k h = absurd (cc)
found_place name i (e ∷ es) k h = elim (cases_Bool (bytes_eq name e.0)) [
  | inl is ↦ let same : i ≡ k = (let found = rw is at h in cc) in rw is (omega (arith, same))
  | inr other ↦ let rest = found_place name (i + 1) es k (rw other at h) in rw other (omega (arith, rest))
]

pub is_some_position : {X : Type 0} (test : X → Bool) (i : ℕ) (xs : List X) → is_some (position_from test i xs) ≡ list_any test xs
is_some_position test i [] = refl
is_some_position test i (x ∷ xs) = elim (cases_Bool (test x)) [
  | inl is ↦ rw is refl
  | inr other ↦ rw other (is_some_position test (i + 1) xs)
]

-- ---- an element at a place

pub entry_at : (es : List (List ℕ × Kind)) (k : ℕ) (there name : List ℕ) (kind : Kind) → slice_get es k ≡ Some (there, kind) → bytes_eq there name ≡ true →
    slice_get (map element es) k ≡ Some (doc_element kind name)
entry_at [] k there name kind is same = absurd (cc)
entry_at (e ∷ es) zero there name kind is same =
    let first : e ≡ (there, kind) = cc in
    ap (λ (x : List ℕ × Kind). Some (element x)) first ∙ ap (λ n. Some (doc_element kind n)) (same-name there name same)
entry_at (e ∷ es) (suc k) there name kind is same = entry_at es k there name kind is same

-- it is the one of its name
pub called_at : (es : List DocElement) (k : ℕ) (name : List ℕ) (kind : Kind) → AreOnceCalled es → slice_get es k ≡ Some (doc_element kind name) →
    called es name ≡ Some (doc_element kind name)
called_at [] k name kind once is = absurd (cc)
called_at (e ∷ es) zero name kind once is =
    let first : e ≡ doc_element kind name = cc in
    subst (λ (d : DocElement). called (d ∷ es) name ≡ Some (doc_element kind name)) (sym first) (rw (name-itself name) refl)
called_at (e ∷ es) (suc k) name kind once is =
    let other : is_called name e ≡ false = other-swapped e.name name (none-at (is_called e.name) es (doc_element kind name) once.0 (get-contains es k (doc_element kind name) is)) in
    rw other (called_at es k name kind once.1 is)

pub place_at : (es : List DocElement) (k : ℕ) (name : List ℕ) (kind : Kind) → AreOnceCalled es → slice_get es k ≡ Some (doc_element kind name) → place es name ≡ k
place_at es k name kind once is =
    place-at es name k once (slice_get_within es k (doc_element kind name) is)
    (subst (λ (d : DocElement). is_called name d ≡ true) (sym (get_or_from_slice_get es k (doc_element kind name) (doc_element Pc []) is)) (name-itself name))

-- ---- elements one after another

module _ (all elements : List DocElement) (i : ℕ) (x : DocElement) (below : i < length elements) (is : x ≡ get_or elements i x) (so_far : all ≡ take i elements) where
  swapped : (d e : DocElement) → is_called d.name e ≡ is_called e.name d
  swapped d e = bytes-swapped d.name e.name

  -- one whose name is taken
  pub taken : is_made all x.name ≡ true → AreOnceCalled elements → ⊥
  taken there once =
      let whole = subst AreOnceCalled (sym (parted elements i x below is)) once in
      let no = once-apart (λ (d : DocElement). is_called d.name) swapped (take i elements) x (drop (i + 1) elements) whole in
      let before : is_made (take i elements) x.name ≡ true = subst (λ l. is_made l x.name ≡ true) so_far there in cc

  -- one whose name is free
  pub more : (new : List DocElement) → new ≡ all ++ x ∷ [] → new ≡ take (i + 1) elements
  more new made = made ∙ ap (λ l. l ++ x ∷ []) so_far ∙ sym (pushed elements i x below is)

  pub more-once : is_made all x.name ≡ false → AreOnceCalled (take i elements) → AreOnceCalled (take (i + 1) elements)
  more-once free once =
      let new : is_made (take i elements) x.name ≡ false = subst (λ l. is_made l x.name ≡ false) so_far free in
      subst AreOnceCalled (sym (pushed elements i x below is)) (once-push (λ (d : DocElement). is_called d.name) swapped (take i elements) x once new)
