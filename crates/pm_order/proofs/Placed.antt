-- Elements of different names at their places.
use Rattle.std.proofs.Common.{zero, suc, ◌≡◌, ◌<◌, ◌+◌, ℕ, true, false, List, [], ◌∷◌, ◌++◌, length, map, filter, get_or, slice_get, slice_set, Some, Contains, inl, inr, refl, sym, ◌∙◌, ap, subst, arith, bytes_eq, take, replicate, if◌then◌else◌}
use Rattle.std.specs.List.{list_any, position_or_len}
use Rattle.std.proofs.lemmas.Bool.{cases_Bool, cond_both}
use Rattle.std.proofs.lemmas.List.{get_or_default, length-map, map-append}
use Rattle.std.proofs.lemmas.List.Elements.{filter-append}
use Rattle.std.proofs.lemmas.Slice.Eq.{bytes_eq-Decides}
use Rattle.indexmap.specs.IndexSet.{insert_key}
use Rattle.pm_laws.proofs.Items.{contains-first, contains-none, contains-rest, filter-contains, get-contains, none-at}
use Rattle.pm_laws.proofs.Names.{other-swapped}
use Rattle.pm_policy.specs.Order.{is_made}
use Rattle.pm_model.specs.declared.elements.Kind.TheVariants.{Pc}
use Rattle.pm_policy.specs.Policy.{doc_element, is_assigned, is_called}
use Rattle.pm_policy.specs.Sound.{AreOnce, AreOnceCalled}
use Rattle.pm_policy.specs.Waiting.{AreKnown}
use Rattle.pm_policy.specs.declared.policy.DocElement.{DocElement}
use Rattle.pm_policy.specs.declared.policy.DocAssignment.{DocAssignment}
use Rattle.pm_policy.proofs.Ordered.{map-contains, same-name}
use Rattle.pm_by_name.proofs.Keyed.{once-map}
use Rattle.pm_order.specs.Ranked.{containers, containers_of, element_in, place, AreWithin}

-- the place is where the name stands among the names
pub place-position : (es : List DocElement) (name : List ℕ) → position_or_len (bytes_eq name) (map (λ (e : DocElement). e.name) es) ≡ place es name
place-position [] name = refl
place-position (e ∷ es) name = elim (cases_Bool (is_called name e)) [
  | inl is ↦ rw is refl
  | inr other ↦ let rest = place-position es name in rw other (omega (arith, rest))
]

pub place-within : (es : List DocElement) (name : List ℕ) → is_made es name ≡ true → place es name < length es
place-within [] name h = absurd (cc)
place-within (e ∷ es) name h = elim (cases_Bool (is_called name e)) [
  | inl is ↦ rw is (omega arith)
  | inr other ↦ let rest = place-within es name (rw other at h) in rw other (omega (arith, rest))
]

-- there it stands
pub placed : (es : List DocElement) (name : List ℕ) → is_made es name ≡ true → is_called name (element_in es (place es name)) ≡ true
placed [] name h = absurd (cc)
placed (e ∷ es) name h = elim (cases_Bool (is_called name e)) [
  | inl is ↦ rw is is
  | inr other ↦ rw other (placed es name (rw other at h))
]

pub element-there : (es : List DocElement) (k : ℕ) → k < length es → Contains es (element_in es k)
element-there [] k h = absurd (omega (arith, h))
element-there (e ∷ es) zero h = contains-first e es
element-there (e ∷ es) (suc k) h = contains-rest e (element_in es k) es (element-there es k (omega (arith, h)))

-- and nowhere else
pub place-at : (es : List DocElement) (name : List ℕ) (k : ℕ) → AreOnceCalled es → k < length es → is_called name (element_in es k) ≡ true → place es name ≡ k
place-at [] name k once h is = absurd (omega (arith, h))
place-at (e ∷ es) name zero once h is = rw is refl
place-at (e ∷ es) name (suc k) once h is =
    let below : k < length es = omega (arith, h) in
    let named : name ≡ (element_in es k).name = same-name name (element_in es k).name is in
    let other : is_called name e ≡ false = subst (λ n. bytes_eq n e.name ≡ false) (sym named)
    (other-swapped e.name (element_in es k).name (none-at (is_called e.name) es (element_in es k) once.0 (element-there es k below))) in
    rw other (ap (λ i. suc i) (place-at es name k once.1 below is))

-- the name of an element is new behind those before it
pub names_more : (es : List DocElement) (k : ℕ) (d : DocElement) → AreOnceCalled es → k < length es →
    insert_key bytes_eq (map (λ (e : DocElement). e.name) (take k es)) (get_or es k d).name ≡ map (λ (e : DocElement). e.name) (take (k + 1) es)
names_more [] k d once below = absurd (omega (arith, below))
names_more (e ∷ es) zero d once below = refl
names_more (e ∷ es) (suc k) d once below =
    let within : k < length es = omega (arith, below) in
    let f = get_or es k d in
    let other : bytes_eq f.name e.name ≡ false = other-swapped e.name f.name (none-at (is_called e.name) es f once.0 (get-there es k d within)) in
    let rest = names_more es k d once.1 within in
    subst (λ m. insert_key bytes_eq (e.name ∷ map (λ (x : DocElement). x.name) (take k es)) f.name ≡ map (λ (x : DocElement). x.name) (take m (e ∷ es)))
    (let is : suc (k + 1) ≡ suc k + 1 = omega arith in is)
    (rw other (behind e.name f.name (map (λ (x : DocElement). x.name) (take k es)) (map (λ (x : DocElement). x.name) (take (k + 1) es)) rest)) where
      get-there : (xs : List DocElement) (i : ℕ) (d : DocElement) → i < length xs → Contains xs (get_or xs i d)
      get-there xs i d below = subst (λ x. Contains xs x) (get_or_default xs i (doc_element Pc []) d below) (element-there xs i below)

      behind : (a n : List ℕ) (ks ms : List (List ℕ)) → insert_key bytes_eq ks n ≡ ms →
          (if list_any (bytes_eq n) ks then a ∷ ks else (a ∷ ks) ++ n ∷ []) ≡ a ∷ ms
      behind a n ks ms h = cond_both (list_any (bytes_eq n) ks) ks (ks ++ n ∷ []) (λ l. l ≡ ms → (if list_any (bytes_eq n) ks then a ∷ ks else (a ∷ ks) ++ n ∷ []) ≡ a ∷ ms)
          (λ is same. rw is (ap (λ l. a ∷ l) same)) (λ is same. rw is (ap (λ l. a ∷ l) same)) h

-- a name that has been made stands among the names
pub name_known : (es : List DocElement) (name : List ℕ) → is_made es name ≡ true → list_any (bytes_eq name) (map (λ (e : DocElement). e.name) es) ≡ true
name_known [] name h = h
name_known (e ∷ es) name h = elim (cases_Bool (is_called name e)) [
  | inl is ↦ rw is refl
  | inr other ↦ rw other (name_known es name (rw other at h))
]

-- where names are different, one has the place at which it stands
pub position_at : (names : List (List ℕ)) (name : List ℕ) (k : ℕ) → AreOnce bytes_eq names → slice_get names k ≡ Some name → position_or_len (bytes_eq name) names ≡ k
position_at [] name k once is = absurd (cc)
position_at (n ∷ names) name zero once is =
    let same : bytes_eq name n ≡ true = (bytes_eq-Decides name n).1 (cc) in rw same refl
position_at (n ∷ names) name (suc k) once is =
    let other : bytes_eq name n ≡ false = other-swapped n name (none-at (bytes_eq n) names name once.0 (get-contains names k name is)) in
    let rest = position_at names name k once.1 is in rw other (omega (arith, rest))

pub names_once : (es : List DocElement) → AreOnceCalled es → AreOnce bytes_eq (map (λ (e : DocElement). e.name) es)
names_once es once = once-map (λ (e : DocElement). e.name) (λ (d e : DocElement). is_called d.name e) bytes_eq (λ d e. refl) es once

-- ---- one assignment more

pub containers_none : (all es : List DocElement) → map (containers_of all []) es ≡ replicate (length es) []
containers_none all [] = refl
containers_none all (e ∷ es) = ap (λ l. [] ∷ l) (containers_none all es)

module _ (all : List DocElement) (ps : List DocAssignment) (p : DocAssignment) where
  -- that of the element has a container more
  container-more : (e : DocElement) → is_called p.from e ≡ true → containers_of all (ps ++ p ∷ []) e ≡ containers_of all ps e ++ place all p.to ∷ []
  container-more e is =
      let mine : is_assigned e.name p ≡ true = (bytes_eq-Decides e.name p.from).1 (sym (same-name p.from e.name is)) in
      ap (λ l. map (λ (q : DocAssignment). place all q.to) l) (filter-append (is_assigned e.name) ps (p ∷ []) ∙ rw mine refl)
      ∙ map-append (λ (q : DocAssignment). place all q.to) (filter (is_assigned e.name) ps) (p ∷ [])

  -- the others have the same
  container-other : (e : DocElement) → is_called p.from e ≡ false → containers_of all (ps ++ p ∷ []) e ≡ containers_of all ps e
  container-other e other =
      let others : is_assigned e.name p ≡ false = other-swapped p.from e.name other in
      ap (λ l. map (λ (q : DocAssignment). place all q.to) l) (filter-append (is_assigned e.name) ps (p ∷ []) ∙ rw others (append-none (filter (is_assigned e.name) ps))) where
        append-none : (xs : List DocAssignment) → xs ++ [] ≡ xs
        append-none [] = refl
        append-none (x ∷ xs) = ap (λ l. x ∷ l) (append-none xs)

  containers-others : (es : List DocElement) → list_any (is_called p.from) es ≡ false → map (containers_of all (ps ++ p ∷ [])) es ≡ map (containers_of all ps) es
  containers-others [] none = refl
  containers-others (e ∷ es) none = elim (cases_Bool (is_called p.from e)) [
    | inl is ↦ absurd (let some = rw is at none in cc)
    | inr other ↦ let rest = containers-others es (rw other at none) in let this = container-other e other in cc
  ]

  pub containers-more : (es : List DocElement) → AreOnceCalled es → is_made es p.from ≡ true → (d : List ℕ) →
      slice_set (map (containers_of all ps) es) (place es p.from) (get_or (map (containers_of all ps) es) (place es p.from) d ++ place all p.to ∷ [])
      ≡ map (containers_of all (ps ++ p ∷ [])) es
  containers-more [] once h d = absurd (cc)
  containers-more (e ∷ es) once h d = elim (cases_Bool (is_called p.from e)) [
    | inl is ↦
        let none : list_any (is_called p.from) es ≡ false = subst (λ n. list_any (is_called n) es ≡ false) (sym (same-name p.from e.name is)) once.0 in
        let rest = containers-others es none in
        let this = container-more e is in rw is (cc)
    | inr other ↦
        let rest = containers-more es once.1 (rw other at h) d in
        let this = container-other e other in rw other (cc)
  ]

-- what a search and its lists give
pub found-place : (es : List DocElement) (names : List (List ℕ)) (name : List ℕ) → names ≡ map (λ (e : DocElement). e.name) es →
    position_or_len (bytes_eq name) names ≡ place es name
found-place es names name same = ap (λ l. position_or_len (bytes_eq name) l) same ∙ place-position es name

pub containers-added : (es : List DocElement) (ps : List DocAssignment) (p : DocAssignment) (lists : List (List ℕ)) (from to : ℕ) →
    lists ≡ map (containers_of es ps) es → from ≡ place es p.from → to ≡ place es p.to → AreOnceCalled es → is_made es p.from ≡ true →
    slice_set lists from (get_or lists from [] ++ to ∷ []) ≡ map (containers_of es (ps ++ p ∷ [])) es
containers-added es ps p lists from to same at_from at_to once there = rw (same, at_from, at_to) (containers-more es ps p es once there [])

-- each container has a place
pub containers-within : (es : List DocElement) (pairs : List DocAssignment) → AreKnown pairs es → AreWithin (containers es pairs)
containers-within es pairs known i k c = let is = of es i c in let same = length-map es (containers_of es pairs) in omega (arith, is, same) where
  of : (ds : List DocElement) (i : ℕ) → Contains (get_or (map (containers_of es pairs) ds) i []) k → k < length es
  of [] i c = contains-none k c
  of (d ∷ ds) zero c =
      let found = map-contains (λ (p : DocAssignment). place es p.to) (filter (is_assigned d.name) pairs) k c in
      let pair = (filter-contains (is_assigned d.name) pairs found.0 found.1).0 in
      subst (λ j. j < length es) found.2 (place-within es found.0.to (known found.0 pair).1)
  of (d ∷ ds) (suc i) c = of ds i c
