-- The order of elements by their names is that by their places.
use Rattle.std.proofs.Common.{zero, suc, ◌≡◌, ◌≤◌, ◌<◌, ◌+◌, ◌-◌, ◌||◌, ◌&&◌, ℕ, Bool, true, false, not, List, [], ◌∷◌, ◌++◌, length, map, filter, find, take, drop, replicate, get_or, slice_set, Option, None, Some, Contains, inl, inr, refl, sym, ◌∙◌, ap, subst, arith, if◌then◌else◌}
use Rattle.std.specs.List.{list_all, list_any}
use Rattle.std.proofs.lemmas.Bool.{cases_Bool, cond_both, or_parts}
use Rattle.std.proofs.lemmas.List.{get_or-set_same, get_or-set_other}
use Rattle.pm_laws.proofs.Items.{contains-first, contains-rest, filter-contains, none-at}
use Rattle.pm_laws.proofs.Names.{other-swapped}
use Rattle.pm_policy.specs.Order.{is_made, is_ready, ordered, then_after, without}
use Rattle.pm_policy.specs.Policy.{is_assigned, is_called}
use Rattle.pm_policy.specs.Sound.{AreOnceCalled}
use Rattle.pm_policy.specs.Waiting.{AreKnown}
use Rattle.pm_policy.specs.declared.policy.DocElement.{DocElement}
use Rattle.pm_policy.specs.declared.policy.DocAssignment.{DocAssignment}
use Rattle.pm_policy.proofs.Ordered.{made-push, name-itself}
use Rattle.pm_order.specs.Ranked.{containers, containers_of, element_in, first_from, place, ranked, then_ranks}
use Rattle.pm_order.proofs.Placed.{element-there, place-at, placed}

-- those that aren't marked
abbrev pub left : List Bool → List DocElement → List DocElement
left [] ds = []
left (b ∷ bs) [] = []
left (b ∷ bs) (d ∷ ds) = if b then left bs ds else d ∷ left bs ds

-- ---- a mark more

none-left : (test : DocElement → Bool) (bs : List Bool) (ds : List DocElement) → list_any test ds ≡ false → list_any test (left bs ds) ≡ false
none-left test [] ds h = refl
none-left test (b ∷ bs) [] h = refl
none-left test (b ∷ bs) (d ∷ ds) h =
    let p = or_parts (test d) (list_any test ds) h in
    let rest = none-left test bs ds p.1 in
    cond_both b (left bs ds) (d ∷ left bs ds) (λ l. list_any test l ≡ false) (λ is. rest) (λ is. rw p.0 rest)

none-without : (e : DocElement) (ds : List DocElement) → list_any (is_called e.name) ds ≡ false → without e ds ≡ ds
none-without e [] h = refl
none-without e (d ∷ ds) h =
    let p = or_parts (is_called e.name d) (list_any (is_called e.name) ds) h in rw p.0 (ap (λ l. d ∷ l) (none-without e ds p.1))

-- what is marked goes
pub left-marked : (bs : List Bool) (ds : List DocElement) (k : ℕ) → AreOnceCalled ds → length bs ≡ length ds → k < length ds →
    without (element_in ds k) (left bs ds) ≡ left (slice_set bs k true) ds
left-marked [] [] k once same below = absurd (omega (arith, below))
left-marked [] (d ∷ ds) k once same below = absurd (omega (arith, same))
left-marked (b ∷ bs) [] k once same below = absurd (omega (arith, same))
left-marked (b ∷ bs) (d ∷ ds) zero once same below =
    let rest = none-without d (left bs ds) (none-left (is_called d.name) bs ds once.0) in
    cond_both b (left bs ds) (d ∷ left bs ds) (λ l. without d l ≡ left bs ds) (λ is. rest) (λ is. rw (name-itself d.name) rest)
left-marked (b ∷ bs) (d ∷ ds) (suc k) once same below =
    let e = element_in ds k in
    let within : k < length ds = omega (arith, below) in
    let other : is_called e.name d ≡ false = other-swapped d.name e.name (none-at (is_called d.name) ds e once.0 (element-there ds k within)) in
    let rest = left-marked bs ds k once.1 (omega (arith, same)) within in
    of b other rest where
      of : (b : Bool) → is_called (element_in ds k).name d ≡ false → without (element_in ds k) (left bs ds) ≡ left (slice_set bs k true) ds →
          without (element_in ds k) (if b then left bs ds else d ∷ left bs ds) ≡ (if b then left (slice_set bs k true) ds else d ∷ left (slice_set bs k true) ds)
      of true other rest = rest
      of false other rest = rw other (ap (λ l. d ∷ l) rest)

length-set-same : (bs : List Bool) (k : ℕ) → length (slice_set bs k true) ≡ length bs
length-set-same [] k = refl
length-set-same (b ∷ bs) zero = omega arith
length-set-same (b ∷ bs) (suc k) = let rest = length-set-same bs k in omega (arith, rest)

-- ---- at first

-- the first k are marked, and m behind them aren't
abbrev pub first_marked : ℕ → ℕ → List Bool
first_marked k m = replicate k true ++ replicate m false

pub none-marked : (m i : ℕ) → get_or (replicate m false) i false ≡ false
none-marked zero i = refl
none-marked (suc m) zero = refl
none-marked (suc m) (suc i) = none-marked m i

pub left-first : (k m : ℕ) (ds : List DocElement) → k + m ≡ length ds → left (first_marked k m) ds ≡ drop k ds
left-first zero zero [] h = refl
left-first zero zero (d ∷ ds) h = absurd (omega (arith, h))
left-first zero (suc m) [] h = absurd (omega (arith, h))
left-first zero (suc m) (d ∷ ds) h = ap (λ l. d ∷ l) (left-first zero m ds (omega (arith, h)))
left-first (suc k) m [] h = absurd (omega (arith, h))
left-first (suc k) m (d ∷ ds) h = left-first k m ds (omega (arith, h))

pub made-first : (k m : ℕ) (ds : List DocElement) (name : List ℕ) → k ≤ length ds → is_made (take k ds) name ≡ get_or (first_marked k m) (place ds name) false
made-first zero m ds name h = sym (none-marked m (place ds name))
made-first (suc k) m [] name h = absurd (omega (arith, h))
made-first (suc k) m (d ∷ ds) name h = elim (cases_Bool (is_called name d)) [
  | inl is ↦ rw is refl
  | inr other ↦ rw other (made-first k m ds name (omega (arith, h)))
]

pub length-marked : (k m : ℕ) → length (first_marked k m) ≡ k + m
length-marked zero zero = refl
length-marked zero (suc m) = let rest = length-marked zero m in omega (arith, rest)
length-marked (suc k) m = let rest = length-marked k m in omega (arith, rest)

-- ---- turns

-- what is found among the elements from place i on, and where
abbrev pub FindsAt : ℕ → List DocElement → Option DocElement → Option ℕ → Type 0
FindsAt i ds found None = found ≡ None
FindsAt i ds found (Some k) = (j : ℕ) × (k ≡ i + j) × (j < length ds) × (found ≡ Some (element_in ds j))

one-more : (i : ℕ) (d : DocElement) (ds : List DocElement) (found : Option DocElement) (o : Option ℕ) → FindsAt (i + 1) ds found o → FindsAt i (d ∷ ds) found o
one-more i d ds found None h = h
one-more i d ds found (Some k) h = let is = h.1 in let below = h.2 in (suc h.0, omega (arith, is), omega (arith, below), h.3)

module _ (pairs : List DocAssignment) (es : List DocElement) (once : AreOnceCalled es) (known : AreKnown pairs es) where
  -- the same are made, by name and by place
  abbrev pub Agree : List DocElement → List Bool → Type 0
  Agree made marks = (name : List ℕ) → is_made es name ≡ true → is_made made name ≡ get_or marks (place es name) false

  agree-more : (made : List DocElement) (marks : List Bool) (k : ℕ) → Agree made marks → length marks ≡ length es → k < length es →
      Agree (made ++ element_in es k ∷ []) (slice_set marks k true)
  agree-more made marks k agree same below name there = elim (cases_Bool (is_called name (element_in es k))) [
    | inl is ↦
        let at_k : place es name ≡ k = place-at es name k once below is in
        let within : k < length marks = omega (arith, same, below) in
        made-push made (element_in es k) name ∙ or_last (is_made made name) (is_called name (element_in es k)) is
        ∙ sym (subst (λ i. get_or (slice_set marks k true) i false ≡ true) (sym at_k) (get_or-set_same marks k true false within))
    | inr other ↦
        let apart : place es name ≡ k → ⊥ = λ at_k. let is = subst (λ i. is_called name (element_in es i) ≡ true) at_k (placed es name there) in cc in
        made-push made (element_in es k) name ∙ or_first (is_made made name) (is_called name (element_in es k)) other
        ∙ agree name there ∙ sym (get_or-set_other marks k (place es name) true false apart)
  ] where
    or_last : (a b : Bool) → b ≡ true → (a || b) ≡ true
    or_last true b h = refl
    or_last false b h = h

    or_first : (a b : Bool) → b ≡ false → (a || b) ≡ a
    or_first true b h = refl
    or_first false b h = h

  ready-same : (made : List DocElement) (marks : List Bool) → Agree made marks → (ps : List DocAssignment) → ((p : DocAssignment) → Contains ps p → Contains pairs p) →
      list_all (λ (p : DocAssignment). is_made made p.to) ps ≡ list_all (λ k. get_or marks k false) (map (λ (p : DocAssignment). place es p.to) ps)
  ready-same made marks agree [] sub = refl
  ready-same made marks agree (p ∷ ps) sub =
      let this = agree p.to (known p (sub p (contains-first p ps))).1 in
      let rest = ready-same made marks agree ps (λ q c. sub q (contains-rest p q ps c)) in
      rw (this, rest) refl

  find-same : (made : List DocElement) (marks : List Bool) → Agree made marks → (i : ℕ) (bs : List Bool) (ds : List DocElement) → length bs ≡ length ds →
      ((k : ℕ) → get_or marks (i + k) false ≡ get_or bs k false) →
      FindsAt i ds (find (is_ready pairs made) (left bs ds)) (first_from i marks (map (containers_of es pairs) ds))
  find-same made marks agree i [] [] same at_i = refl
  find-same made marks agree i [] (d ∷ ds) same at_i = absurd (omega (arith, same))
  find-same made marks agree i (b ∷ bs) [] same at_i = absurd (omega (arith, same))
  find-same made marks agree i (b ∷ bs) (d ∷ ds) same at_i =
      of b (list_all (λ k. get_or marks k false) (containers_of es pairs d))
      (ready-same made marks agree (filter (is_assigned d.name) pairs) (λ p c. (filter-contains (is_assigned d.name) pairs p c).0))
      (subst (λ k. get_or marks k false ≡ b) (omega arith) (at_i 0))
      (one-more i d ds (find (is_ready pairs made) (left bs ds)) (first_from (i + 1) marks (map (containers_of es pairs) ds))
      (find-same made marks agree (i + 1) bs ds (omega (arith, same)) (λ k. subst (λ m. get_or marks m false ≡ get_or bs k false) (omega arith) (at_i (suc k))))) where
        of : (b r : Bool) → is_ready pairs made d ≡ r → get_or marks i false ≡ b →
            FindsAt i (d ∷ ds) (find (is_ready pairs made) (left bs ds)) (first_from (i + 1) marks (map (containers_of es pairs) ds)) →
            FindsAt i (d ∷ ds) (find (is_ready pairs made) (if b then left bs ds else d ∷ left bs ds))
            (if not (get_or marks i false) && r then Some i else first_from (i + 1) marks (map (containers_of es pairs) ds))
        of true r ready mark further = rw mark further
        of false true ready mark further = rw (mark, ready) (0, omega arith, omega arith, refl)
        of false false ready mark further = rw (mark, ready) further

  pub ranks-same : (n : ℕ) (made : List DocElement) (marks : List Bool) → length marks ≡ length es → Agree made marks →
      ordered pairs n made (left marks es) ≡ map (element_in es) (ranked (containers es pairs) n marks)
  ranks-same zero made marks same agree = refl
  ranks-same (suc n) made marks same agree =
      of (find (is_ready pairs made) (left marks es)) (first_from 0 marks (containers es pairs))
      (find-same made marks agree 0 marks es same (λ k. ap (λ i. get_or marks i false) (omega arith)))
      (λ k. ranks-same n (made ++ element_in es k ∷ []) (slice_set marks k true)) where
        of : (found : Option DocElement) (o : Option ℕ) → FindsAt 0 es found o →
            ((k : ℕ) → length (slice_set marks k true) ≡ length es → Agree (made ++ element_in es k ∷ []) (slice_set marks k true) →
            ordered pairs n (made ++ element_in es k ∷ []) (left (slice_set marks k true) es) ≡ map (element_in es) (ranked (containers es pairs) n (slice_set marks k true))) →
            then_after found (λ e. ordered pairs n (made ++ e ∷ []) (without e (left marks es)))
            ≡ map (element_in es) (then_ranks o (λ k. ranked (containers es pairs) n (slice_set marks k true)))
        of found None is further = rw is refl
        of found (Some k) is further =
            let j : k ≡ is.0 = let e = is.1 in omega (arith, e) in
            let below : k < length es = let b = is.2 in omega (arith, j, b) in
            let there : found ≡ Some (element_in es k) = subst (λ i. found ≡ Some (element_in es i)) (sym j) is.3 in
            rw there (ap (λ l. element_in es k ∷ l)
            (ap (λ l. ordered pairs n (made ++ element_in es k ∷ []) l) (left-marked marks es k once same below)
            ∙ further k (omega (arith, same, length-set-same marks k)) (agree-more made marks k agree same below)))

  -- where the first k are made
  pub turns-same : (k : ℕ) → k ≤ length es →
      ordered pairs (length es - k) (take k es) (drop k es) ≡ map (element_in es) (ranked (containers es pairs) (length es - k) (first_marked k (length es - k)))
  turns-same k within =
      subst (λ l. ordered pairs (length es - k) (take k es) l ≡ map (element_in es) (ranked (containers es pairs) (length es - k) (first_marked k (length es - k))))
      (left-first k (length es - k) es (omega (arith, within)))
      (ranks-same (length es - k) (take k es) (first_marked k (length es - k))
      (let l = length-marked k (length es - k) in omega (arith, l, within))
      (λ name there. made-first k (length es - k) es name within))
