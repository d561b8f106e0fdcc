-- The assignments that no element is made with, and the containers in which elements are made.
use Rattle.std.proofs.Common.{zero, suc, ◌≡◌, ◌<◌, ◌+◌, ◌&&◌, ◌||◌, ◌==◌, ℕ, Bool, true, false, not, nat_lt, List, [], ◌∷◌, ◌++◌, length, map, filter, find, take, drop, get_or, slice_get, Option, Some, option_map, Contains, bytes_eq, inl, inr, refl, sym, ◌∙◌, ap, subst, arith, if◌then◌else◌}
use Rattle.std.specs.List.{list_any}
use Rattle.std.proofs.lemmas.Bool.{cases_Bool, cases_lt, eqb-true, le-ltb, lt-ltb, or_parts}
use Rattle.std.proofs.lemmas.Cmp.{nat_list_eq_equiv}
use Rattle.std.proofs.lemmas.List.{take-append-drop, take_more}
use Rattle.std.proofs.lemmas.List.Elements.{Contains-append_right, filter-append}
use Rattle.std.proofs.Math.Seq.{drop-cons}
use Rattle.pm_laws.proofs.Items.{contains-first, contains-rest, none-at}
use Rattle.pm_policy.specs.Order.{is_made, sorted, stands_before}
use Rattle.pm_policy.specs.Policy.{is_assigned, is_called, is_same}
use Rattle.pm_policy.specs.Requests.{first_assignment, is_first, is_first_of, others}
use Rattle.pm_policy.specs.Sound.{AreOnceAssigned, AreOnceCalled}
use Rattle.pm_policy.specs.Waiting.{AreKnown}
use Rattle.pm_policy.specs.declared.policy.DocElement.{DocElement}
use Rattle.pm_policy.specs.declared.policy.DocAssignment.{DocAssignment}
use Rattle.pm_policy.proofs.Ordered.{name-itself, same-name}
use Rattle.pm_policy.proofs.Sorted.{has-sorted, sorted-has}
use Rattle.pm_policy.proofs.Standing.{made-within}
use Rattle.pm_order.specs.Ranked.{containers, containers_of, element_in, is_other, place, turn, turn_at}
use Rattle.pm_order.specs.declared.creation.Turn.{Turn}
use Rattle.pm_order.proofs.Placed.{place-within, placed}

-- ---- elements behind the first ones

dropped : {X : Type 0} (test : X → Bool) (n : ℕ) (xs : List X) → list_any test xs ≡ false → list_any test (drop n xs) ≡ false
dropped test zero xs h = h
dropped test (suc n) [] h = h
dropped test (suc n) (x ∷ xs) h = dropped test n xs (or_parts (test x) (list_any test xs) h).1

one-less : (a b : ℕ) → nat_lt (suc a) (suc b) ≡ nat_lt a b
one-less a b = elim (cases_lt a b) [
  | inl below ↦ lt-ltb (suc a) (suc b) (omega (arith, below)) ∙ sym (lt-ltb a b below)
  | inr past ↦ le-ltb (suc a) (suc b) (omega (arith, past)) ∙ sym (le-ltb a b past)
]

behind : (n : ℕ) (es : List DocElement) (name : List ℕ) → AreOnceCalled es → is_made es name ≡ true → nat_lt (place es name) n ≡ not (is_made (drop n es) name)
behind zero es name once h = rw h (le-ltb (place es name) 0 (omega arith))
behind (suc n) [] name once h = absurd (cc)
behind (suc n) (e ∷ es) name once h = elim (cases_Bool (is_called name e)) [
  | inl is ↦
      let none : is_made (drop n es) name ≡ false =
      dropped (is_called name) n es (subst (λ m. is_made es m ≡ false) (sym (same-name name e.name is)) once.0) in
      rw (is, none) (lt-ltb 0 (suc n) (omega arith))
  | inr other ↦ rw other (one-less (place es name) n ∙ behind n es name once.1 (rw other at h))
]

-- ---- containers at a place

containers-at : (all : List DocElement) (ps : List DocAssignment) (es : List DocElement) (k : ℕ) → k < length es →
    get_or (map (containers_of all ps) es) k [] ≡ containers_of all ps (element_in es k)
containers-at all ps [] k below = absurd (omega (arith, below))
containers-at all ps (e ∷ es) zero below = refl
containers-at all ps (e ∷ es) (suc k) below = containers-at all ps es k (omega (arith, below))

some-there : (all : List DocElement) (name : List ℕ) (ps : List DocAssignment) →
    not (length (map (λ (p : DocAssignment). place all p.to) (filter (is_assigned name) ps)) == 0) ≡ list_any (is_assigned name) ps
some-there all name [] = refl
some-there all name (p ∷ ps) = elim (cases_Bool (is_assigned name p)) [
  | inl is ↦ rw is (some (length (map (λ (q : DocAssignment). place all q.to) (filter (is_assigned name) ps))))
  | inr other ↦ rw other (some-there all name ps)
] where
  some : (n : ℕ) → not (suc n == 0) ≡ true
  some n = elim (cases_Bool (suc n == 0)) [
    | inl is ↦ let same = eqb-true (suc n) 0 is in absurd (omega (arith, same))
    | inr other ↦ rw other refl
  ]

-- ---- an assignment is the first of its name where none before it has the name

same-swapped : (p q : DocAssignment) → is_same p q ≡ is_same q p
same-swapped p q = ap (λ b. b && bytes_eq p.to q.to) (nat_list_eq_equiv.symm p.from q.from) ∙ ap (λ b. bytes_eq q.from p.from && b) (nat_list_eq_equiv.symm p.to q.to)

first-where : (xs : List DocAssignment) (p : DocAssignment) (rest : List DocAssignment) → AreOnceAssigned (xs ++ p ∷ rest) →
    is_first_of p (first_assignment (xs ++ p ∷ rest) p.from) ≡ not (list_any (is_assigned p.from) xs)
first-where [] p rest once = rw (name-itself p.from) (rw (name-itself p.from, name-itself p.to) refl)
first-where (x ∷ xs) p rest once = elim (cases_Bool (is_assigned p.from x)) [
  | inl is ↦
      let other : is_same p x ≡ false = same-swapped p x ∙ none-at (is_same x) (xs ++ p ∷ rest) p once.0 (Contains-append_right xs (p ∷ rest) p (contains-first p rest)) in
      rw is other
  | inr other ↦ rw other (first-where xs p rest once.1)
]

abbrev pub turn-of : DocElement → Option (List ℕ) → Turn
turn-of e into = record { element = e; into = into }

both-nots : (made before : Bool) → (not made || before) ≡ not (made && not before)
both-nots true true = refl
both-nots true false = refl
both-nots false before = refl

module _ (es : List DocElement) (pairs : List DocAssignment) (once : AreOnceCalled es) (known : AreKnown pairs es) (assigned : AreOnceAssigned pairs) where
  abbrev pub IsOther : ℕ → DocAssignment → Bool
  IsOther n p = not (is_first (drop n es) pairs p)

  pub other-told : (n k : ℕ) (p : DocAssignment) → k < length pairs → p ≡ get_or pairs k p →
      is_other n (place es p.from) (get_or (map (containers_of es (take k pairs)) es) (place es p.from) []) ≡ IsOther n p
  other-told n k p below is =
      let there : is_made es p.from ≡ true = (known p (k, below, sym is)).0 in
      let within = place-within es p.from there in
      let named : p.from ≡ (element_in es (place es p.from)).name = same-name p.from (element_in es (place es p.from)).name (placed es p.from there) in
      let next : suc k ≡ k + 1 = omega arith in
      let rest : drop k pairs ≡ p ∷ drop (k + 1) pairs = drop-cons pairs k p below ∙ rw (← is, next) refl in
      let parted : take k pairs ++ p ∷ drop (k + 1) pairs ≡ pairs = ap (λ l. take k pairs ++ l) (sym rest) ∙ take-append-drop k pairs in
      let first : is_first_of p (first_assignment pairs p.from) ≡ not (list_any (is_assigned p.from) (take k pairs)) =
      subst (λ l. is_first_of p (first_assignment l p.from) ≡ not (list_any (is_assigned p.from) (take k pairs))) parted
      (first-where (take k pairs) p (drop (k + 1) pairs) (subst AreOnceAssigned (sym parted) assigned)) in
      ap (λ b. b || not (length (get_or (map (containers_of es (take k pairs)) es) (place es p.from) []) == 0)) (behind n es p.from once there)
      ∙ ap (λ (l : List ℕ). not (is_made (drop n es) p.from) || not (length l == 0)) (containers-at es (take k pairs) es (place es p.from) within)
      ∙ ap (λ b. not (is_made (drop n es) p.from) || b)
      (some-there es (element_in es (place es p.from)).name (take k pairs) ∙ ap (λ m. list_any (is_assigned m) (take k pairs)) (sym named))
      ∙ both-nots (is_made (drop n es) p.from) (list_any (is_assigned p.from) (take k pairs))
      ∙ ap (λ b. not (is_made (drop n es) p.from && b)) (sym first)

  -- one assignment more
  pub others-more : (n k : ℕ) (p : DocAssignment) (wanted : Bool) → k < length pairs → p ≡ get_or pairs k p → wanted ≡ IsOther n p →
      filter (IsOther n) (take k pairs) ++ (if wanted then p ∷ [] else []) ≡ filter (IsOther n) (take (k + 1) pairs)
  others-more n k p wanted below is same =
      ap (λ b. filter (IsOther n) (take k pairs) ++ (if b then p ∷ [] else [])) same
      ∙ sym (filter-append (IsOther n) (take k pairs) (p ∷ []))
      ∙ ap (λ l. filter (IsOther n) l) (ap (λ (q : DocAssignment). take k pairs ++ q ∷ []) is ∙ sym (take_more pairs k p below))

  -- ---- what the first container of an element is

  into-of : (name : List ℕ) (ps : List DocAssignment) → ((p : DocAssignment) → Contains ps p → is_made es p.to ≡ true) →
      option_map (λ j. (element_in es j).name) (slice_get (map (λ (p : DocAssignment). place es p.to) (filter (is_assigned name) ps)) 0)
      ≡ option_map (λ (p : DocAssignment). p.to) (find (is_assigned name) ps)
  into-of name [] there = refl
  into-of name (p ∷ ps) there = elim (cases_Bool (is_assigned name p)) [
    | inl is ↦ rw is (ap Some (sym (same-name p.to (element_in es (place es p.to)).name (placed es p.to (there p (contains-first p ps))))))
    | inr other ↦ rw other (into-of name ps (λ q c. there q (contains-rest p q ps c)))
  ]

  pub turn-told : (k : ℕ) → k < length es → turn_at es (containers es pairs) k ≡ turn pairs (element_in es k)
  turn-told k below = ap (turn-of (element_in es k))
      (ap (λ (l : List ℕ). option_map (λ j. (element_in es j).name) (slice_get l 0)) (containers-at es pairs es k below)
      ∙ into-of (element_in es k).name pairs (λ p c. (known p c).1))

  pub turns-told : (ks : List ℕ) → ((k : ℕ) → Contains ks k → k < length es) → map (turn_at es (containers es pairs)) ks ≡ map (turn pairs) (map (element_in es) ks)
  turns-told [] within = refl
  turns-told (k ∷ ks) within =
      let this = turn-told k (within k (contains-first k ks)) in
      let rest = turns-told ks (λ j c. within j (contains-rest k j ks c)) in cc

-- ---- elements by name

same-made : (es : List DocElement) (name : List ℕ) → is_made (sorted stands_before es) name ≡ is_made es name
same-made es name = of (is_made (sorted stands_before es) name) (is_made es name) refl refl where
  of : (a b : Bool) → is_made (sorted stands_before es) name ≡ a → is_made es name ≡ b → a ≡ b
  of true true h k = refl
  of false false h k = refl
  of true false h k = absurd (let yes = made-within (sorted stands_before es) es name (λ e c. has-sorted stands_before es e c) h in cc)
  of false true h k = absurd (let yes = made-within es (sorted stands_before es) name (λ e c. sorted-has stands_before es e c) k in cc)

pub others-sorted : (es : List DocElement) (pairs : List DocAssignment) → others (sorted stands_before es) pairs ≡ others es pairs
others-sorted es pairs = of pairs where
  of : (ps : List DocAssignment) → filter (λ (p : DocAssignment). not (is_first (sorted stands_before es) pairs p)) ps ≡ filter (λ (p : DocAssignment). not (is_first es pairs p)) ps
  of [] = refl
  of (p ∷ ps) = rw (same-made es p.from, of ps) refl
