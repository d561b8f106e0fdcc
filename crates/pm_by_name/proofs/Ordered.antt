-- A list whose items stand in order is what sorting makes of it, and has nothing twice.
use Rattle.std.proofs.Common.{suc, ◌≡◌, ◌<◌, ◌≤◌, ◌+◌, ℕ, Bool, true, List, [], ◌∷◌, length, get_or, Contains, inl, inr, refl, ap, subst, sym, ◌∙◌, arith}
use Rattle.std.specs.Cmp.{IsTotalOrder}
use Rattle.std.specs.Cmp.Lexicographic.{slice_cmp}
use Rattle.std.specs.Ordering.{is_eq, is_lt, nat_cmp, ordering_then}
use Rattle.std.specs.declared.cmp.Ordering.{Ordering}
use Rattle.std.specs.declared.cmp.Ordering.TheVariants.{Less, Equal, Greater}
use Rattle.std.proofs.lemmas.Cmp.{nat_list_cmp_total, on_total, then_total}
use Rattle.pm_laws.proofs.Items.{contains-cases, contains-none, none-from}
use Rattle.pm_policy.specs.Order.{inserted, leads_before, sorted}
use Rattle.pm_policy.specs.Policy.{is_same}
use Rattle.pm_policy.specs.Requests.{joins_before}
use Rattle.pm_policy.specs.Sound.{AreOnce, AreOnceAssigned, has_ends}
use Rattle.pm_policy.specs.declared.policy.DocAssignment.{DocAssignment}
use Rattle.pm_policy.specs.declared.policy.DocAssociation.{DocAssociation}
use Rattle.pm_by_name.specs.Rising.{AreRising}
use Rattle.pm_by_name.proofs.ByName.{both-eq, then-lt}

module _ {X : Type 0} (before : X → X → Bool) where
  -- of the first k items, each stands before the next
  abbrev pub AreInOrder : ℕ → List X → Type 0
  AreInOrder k xs = (i : ℕ) (d : X) → i + 1 < k → before (get_or xs i d) (get_or xs (i + 1) d) ≡ true

  rising-rest : (x : X) (xs : List X) → AreRising before (x ∷ xs) → AreRising before xs
  rising-rest x xs h i d below =
      let next : suc i + 1 ≡ suc (i + 1) = omega arith in
      subst (λ m. before (get_or xs i d) (get_or (x ∷ xs) m d) ≡ true) next (h (suc i) d (omega (arith, below)))

  pub rising_sorted : (xs : List X) → AreRising before xs → sorted before xs ≡ xs
  rising_sorted [] h = refl
  rising_sorted (x ∷ []) h = refl
  rising_sorted (x ∷ y ∷ ys) h =
      let first : before x y ≡ true = h 0 x (omega arith) in
      ap (λ l. inserted before x l) (rising_sorted (y ∷ ys) (rising-rest x (y ∷ ys) h)) ∙ rw first refl

  pub in-order : (k : ℕ) (xs : List X) → length xs ≤ k → AreInOrder k xs → AreRising before xs
  in-order k xs past h i d below = h i d (omega (arith, past, below))

  -- in an order, nothing stands twice
  module _ (cmp : X → X → Ordering) (total : IsTotalOrder cmp) (less : (x y : X) → before x y ≡ is_lt (cmp x y)) where
    is-less : (o : Ordering) → is_lt o ≡ true → o ≡ Less
    is-less Less h = refl
    is-less Equal h = absurd (cc)
    is-less Greater h = absurd (cc)

    all-behind : (x : X) (xs : List X) → AreRising before (x ∷ xs) → (z : X) → Contains xs z → cmp x z ≡ Less
    all-behind x [] h z c = contains-none z c
    all-behind x (y ∷ ys) h z c =
        let first : cmp x y ≡ Less = is-less (cmp x y) (sym (less x y) ∙ h 0 x (omega arith)) in
        elim (contains-cases y z ys c) [
          | inl same ↦ subst (λ w. cmp x w ≡ Less) same first
          | inr rest ↦ total.trans x y z first (all-behind y ys (rising-rest x (y ∷ ys) h) z rest)
        ]

    pub rising_once : (alike : X → X → Bool) → ((x y : X) → alike x y ≡ is_eq (cmp x y)) → (xs : List X) → AreRising before xs → AreOnce alike xs
    rising_once alike same [] h = tt
    rising_once alike same (x ∷ xs) h = (
      none-from (alike x) xs (λ z c. same x z ∙ ap is_eq (all-behind x xs h z c)),
      rising_once alike same xs (rising-rest x xs h),
    )

-- ---- by two names

by-two : {X : Type 0} (first second : X → List ℕ) → IsTotalOrder (λ (x y : X). ordering_then (slice_cmp nat_cmp (first x) (first y)) (slice_cmp nat_cmp (second x) (second y)))
by-two first second = then_total (on_total first nat_list_cmp_total) (on_total second nat_list_cmp_total)

pub assignments_rising_once : (ps : List DocAssignment) → AreRising leads_before ps → AreOnceAssigned ps
assignments_rising_once ps h =
    rising_once leads_before (λ (p q : DocAssignment). ordering_then (slice_cmp nat_cmp p.from q.from) (slice_cmp nat_cmp p.to q.to))
    (by-two (λ (p : DocAssignment). p.from) (λ (p : DocAssignment). p.to))
    (λ p q. then-lt (slice_cmp nat_cmp p.from q.from) (slice_cmp nat_cmp p.to q.to))
    is_same (λ p q. sym (both-eq p.from p.to q.from q.to)) ps h

pub associations_rising_once : (xs : List DocAssociation) → AreRising joins_before xs → AreOnce has_ends xs
associations_rising_once xs h =
    rising_once joins_before (λ (a b : DocAssociation). ordering_then (slice_cmp nat_cmp a.ua b.ua) (slice_cmp nat_cmp a.at b.at))
    (by-two (λ (a : DocAssociation). a.ua) (λ (a : DocAssociation). a.at))
    (λ a b. then-lt (slice_cmp nat_cmp a.ua b.ua) (slice_cmp nat_cmp a.at b.at))
    has_ends (λ a b. sym (both-eq a.ua a.at b.ua b.at)) xs h
