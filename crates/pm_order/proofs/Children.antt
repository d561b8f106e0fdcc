-- The places of what each is a container of.
use Rattle.std.proofs.Common.{zero, suc, ◌≡◌, ◌≤◌, ◌<◌, ◌+◌, ◌↔◌, ◌⊎◌, ℕ, List, [], ◌∷◌, ◌++◌, length, get_or, slice_set, replicate, take, drop, Contains, inl, inr, refl, sym, ◌∙◌, ap, subst, arith}
use Rattle.std.proofs.lemmas.Bool.{cases_eq, cases_lt}
use Rattle.std.proofs.lemmas.List.{get_or-set_same, get_or-set_other, get_or_past, append-nil, length-set, take_all}
use Rattle.std.proofs.Math.Seq.{drop-length, take-length}
use Rattle.std.proofs.lemmas.List.Elements.{Contains-append_left, Contains-push, Contains-push_cases}
use Rattle.pm_laws.proofs.Items.{contains-none}
use Rattle.pm_order.specs.Ranked.{AreAdded, AreChildren}

pub added-none : (item : ℕ) (lists : List (List ℕ)) → AreAdded item [] lists lists
added-none item lists = (refl, λ k i. (λ c. inl c, λ h. elim h [ inl c ↦ c | inr new ↦ contains-none k new.1 ]))

pub added-more : (item : ℕ) (ps : List ℕ) (before now : List (List ℕ)) (at : ℕ) → at < length now → AreAdded item ps before now →
    AreAdded item (ps ++ at ∷ []) before (slice_set now at (get_or now at [] ++ item ∷ []))
added-more item ps before now at within h = (length-set now at (get_or now at [] ++ item ∷ []) ∙ h.0, λ k i. (to k i, from k i)) where
  new : List (List ℕ)
  new = slice_set now at (get_or now at [] ++ item ∷ [])

  at_it : (k : ℕ) → k ≡ at → get_or new k [] ≡ get_or now at [] ++ item ∷ []
  at_it k same = subst (λ j. get_or new j [] ≡ get_or now at [] ++ item ∷ []) (sym same) (get_or-set_same now at (get_or now at [] ++ item ∷ []) [] within)

  more : (k i : ℕ) → (Contains (get_or before k []) i ⊎ ((i ≡ item) × Contains ps k)) → Contains (get_or before k []) i ⊎ ((i ≡ item) × Contains (ps ++ at ∷ []) k)
  more k i (inl c) = inl c
  more k i (inr c) = inr (c.0, Contains-append_left ps (at ∷ []) k c.1)

  to : (k i : ℕ) → Contains (get_or new k []) i → Contains (get_or before k []) i ⊎ ((i ≡ item) × Contains (ps ++ at ∷ []) k)
  to k i c = elim (cases_eq k at) [
    | inl same ↦ elim (Contains-push_cases (get_or now at []) item i (subst (λ l. Contains l i) (at_it k same) c)) [
      | inl old ↦ more k i ((h.1 k i).0 (subst (λ j. Contains (get_or now j []) i) (sym same) old))
      | inr is ↦ inr (sym is, subst (λ j. Contains (ps ++ at ∷ []) j) (sym same) (Contains-push ps at))
    ]
    | inr other ↦ more k i ((h.1 k i).0 (subst (λ l. Contains l i) (get_or-set_other now at k (get_or now at [] ++ item ∷ []) [] other) c))
  ]

  stays : (k i : ℕ) → Contains (get_or now k []) i → Contains (get_or new k []) i
  stays k i c = elim (cases_eq k at) [
    | inl same ↦ subst (λ l. Contains l i) (sym (at_it k same))
        (Contains-append_left (get_or now at []) (item ∷ []) i (subst (λ j. Contains (get_or now j []) i) same c))
    | inr other ↦ subst (λ l. Contains l i) (sym (get_or-set_other now at k (get_or now at [] ++ item ∷ []) [] other)) c
  ]

  from : (k i : ℕ) → Contains (get_or before k []) i ⊎ ((i ≡ item) × Contains (ps ++ at ∷ []) k) → Contains (get_or new k []) i
  from k i (inl c) = stays k i ((h.1 k i).1 (inl c))
  from k i (inr c) = elim (Contains-push_cases ps at k c.1) [
    | inl old ↦ stays k i ((h.1 k i).1 (inr (c.0, old)))
    | inr is ↦ subst (λ l. Contains l i) (sym (at_it k (sym is))) (subst (λ j. Contains (get_or now at [] ++ item ∷ []) j) (sym c.0) (Contains-push (get_or now at []) item))
  ]

-- ---- those of the first n places

abbrev pub AreChildrenTo : ℕ → List (List ℕ) → List (List ℕ) → Type 0
AreChildrenTo n below above = (length below ≡ length above) × ((k i : ℕ) → Contains (get_or below k []) i ↔ ((i < n) × Contains (get_or above i []) k))

nothing_at : (e : List ℕ) (n k : ℕ) → get_or (replicate n e) k e ≡ e
nothing_at e zero k = refl
nothing_at e (suc n) zero = refl
nothing_at e (suc n) (suc k) = nothing_at e n k

length-none : (e : List ℕ) (n : ℕ) → length (replicate n e) ≡ n
length-none e zero = refl
length-none e (suc n) = let rest = length-none e n in omega (arith, rest)

pub children-none : (above : List (List ℕ)) → AreChildrenTo 0 (replicate (length above) []) above
children-none above = (length-none [] (length above), λ k i. (to k i, from k i)) where
  to : (k i : ℕ) → Contains (get_or (replicate (length above) []) k []) i → (i < 0) × Contains (get_or above i []) k
  to k i c = contains-none i (subst (λ l. Contains l i) (nothing_at [] (length above) k) c)

  from : (k i : ℕ) → (i < 0) × Contains (get_or above i []) k → Contains (get_or (replicate (length above) []) k []) i
  from k i h = let no = h.0 in absurd (omega (arith, no))

pub children-more : (n : ℕ) (below now above : List (List ℕ)) → AreChildrenTo n below above → AreAdded n (get_or above n []) below now → AreChildrenTo (n + 1) now above
children-more n below now above h added = (added.0 ∙ h.0, λ k i. (to k i, from k i)) where
  to : (k i : ℕ) → Contains (get_or now k []) i → (i < n + 1) × Contains (get_or above i []) k
  to k i c = elim ((added.1 k i).0 c) [
    | inl old ↦ let p = (h.1 k i).0 old in let less = p.0 in (omega (arith, less), p.1)
    | inr new ↦ let same = new.0 in (omega (arith, same), subst (λ j. Contains (get_or above j []) k) (sym same) new.1)
  ]

  from : (k i : ℕ) → (i < n + 1) × Contains (get_or above i []) k → Contains (get_or now k []) i
  from k i p = elim (cases_eq i n) [
    | inl same ↦ (added.1 k i).1 (inr (same, subst (λ j. Contains (get_or above j []) k) same p.1))
    | inr other ↦ let less = p.0 in (added.1 k i).1 (inl ((h.1 k i).1 (omega (arith, less, other), p.1)))
  ]

place_there : (above : List (List ℕ)) (i k : ℕ) → Contains (get_or above i []) k → i < length above
place_there above i k c = elim (cases_lt i (length above)) [
  | inl below ↦ below
  | inr past ↦ contains-none k (subst (λ l. Contains l k) (get_or_past above i [] past) c)
]

pub children-all : (n : ℕ) (below above : List (List ℕ)) → length above ≤ n → AreChildrenTo n below above → AreChildren below above
children-all n below above all h k i = (to k i, from k i) where
  to : (k i : ℕ) → Contains (get_or below k []) i → Contains (get_or above i []) k
  to k i c = ((h.1 k i).0 c).1

  from : (k i : ℕ) → Contains (get_or above i []) k → Contains (get_or below k []) i
  from k i c = let there = place_there above i k c in (h.1 k i).1 (omega (arith, there, all), c)

pub child_there : (below above : List (List ℕ)) → AreChildren below above → (k i : ℕ) → Contains (get_or below k []) i → i < length above
child_there below above h k i c = place_there above i k ((h k i).0 c)

pub added-whole : (item n : ℕ) (ps : List ℕ) (before now : List (List ℕ)) → length ps ≤ n → AreAdded item (take n ps) before now → AreAdded item ps before now
added-whole item n ps before now all h = subst (λ l. AreAdded item l before now) (take_all n ps all) h

-- what a slice of the whole list has, it has
pub stored : (n : ℕ) (new old : List (List ℕ)) → n ≡ length new → length new ≡ length old → take n (new ++ drop (length new) old) ≡ new
stored n new old all same =
    ap (λ l. take n (new ++ l)) (ap (λ m. drop m old) same ∙ drop-length old) ∙ ap (λ l. take n l) (append-nil new)
    ∙ ap (λ m. take m new) all ∙ take-length new
