-- What the rows tell where assignments are made.
use Rattle.std.proofs.Common.{◌≡◌, ℕ, ◌+◌, ◌<◌, ◌≤◌, Bool, true, false, List, [], ◌∷◌, Option, nat_lt, refl, sym, ◌∙◌, ◌||◌, ◌==◌, arith, inl, inr}
use Rattle.std.proofs.lemmas.Bool.{cases_eq, cases_lt, eq-eqb, lt-ltb, le-ltb, false_from_ne_true, eqb-true, true≢false}
use Rattle.pm_model.specs.Containment.{contained}
use Rattle.pm_reach.specs.Rows.{has, below}
use Rattle.pm_reach.specs.Changes.{TellContainment, Adds, Creates, Assigns, Removes}
use Rattle.pm_reach.proofs.Bits.{ne-eqb, eqb-turned}
use Rattle.pm_reach.proofs.Orders.{contained-cons}
use Rattle.pm_reach.proofs.Passing.{has_below}

-- x was assigned to y
pub assigned_more : (assigned : List (ℕ × ℕ)) (old new : List (List (Option (List ℕ)))) (x y : ℕ) → has old y ≡ true →
    TellContainment assigned old → Assigns x y old new → TellContainment ((x, y) ∷ assigned) new
assigned_more assigned old new x y live t a p q h =
    let was : has old p ≡ true = sym (a.live p) ∙ h in
    a.related p q ∙ rw (t p q was, t p x was, t y q live) (sym (contained-cons (x, y) assigned p q))

-- what has no row is contained in nothing
pub below-none : (rows : List (List (Option (List ℕ)))) (x : ℕ) → has rows x ≡ false → (q : ℕ) → below rows x q ≡ false
below-none rows x none q = false_from_ne_true (below rows x q) (λ h. true≢false (sym (has_below rows x q h) ∙ none))

pub stays : (b : Bool) → (b || false) ≡ b
stays true = refl
stays false = refl

-- x was made, which is assigned to nothing
pub added_more : (assigned : List (ℕ × ℕ)) (old new : List (List (Option (List ℕ)))) (x : ℕ) → has old x ≡ false →
    ((q : ℕ) → contained assigned x q ≡ (x == q)) → TellContainment assigned old → Adds x old new → TellContainment assigned new
added_more assigned old new x none single t a p q h = elim (cases_eq p x) [
  | inl e ↦ rw e (a.related x q ∙ rw (lost q, eq-eqb x x refl) (eqb-turned q x ∙ sym (single q)))
  | inr ne ↦ a.related p q ∙ rw (ne-eqb p x ne) (stays (below old p q) ∙ t p q (sym (a.live p ∙ rw (ne-eqb p x ne) refl) ∙ h))
] where
  lost : (q : ℕ) → below old x q ≡ false
  lost q = below-none old x none q

-- x was made, and assigned to y
pub created_more : (assigned : List (ℕ × ℕ)) (old new : List (List (Option (List ℕ)))) (x y : ℕ) → has old x ≡ false → has old y ≡ true →
    ((q : ℕ) → contained assigned x q ≡ (x == q)) → ((p : ℕ) → has old p ≡ true → contained assigned p x ≡ false) →
    TellContainment assigned old → Creates x y old new → TellContainment ((x, y) ∷ assigned) new
created_more assigned old new x y none live single apart t a p q h = elim (cases_eq p x) [
  | inl e ↦ rw e (a.related x q ∙ rw (below-none old x none q, eq-eqb x x refl, t y q live, eqb-turned q x) (sym (contained-cons (x, y) assigned x q ∙ rw (single x, single q, eq-eqb x x refl) refl)))
  | inr ne ↦ (let was : has old p ≡ true = sym (a.live p ∙ rw (ne-eqb p x ne) refl) ∙ h in
      a.related p q ∙ rw (ne-eqb p x ne, t p q was) (sym (contained-cons (x, y) assigned p q ∙ rw (apart p was) refl)))
]

pub added-alone : (old new : List (List (Option (List ℕ)))) (x : ℕ) → has old x ≡ false → TellContainment [] old → Adds x old new → TellContainment [] new
unfolding contained
added-alone old new x none t a = added_more [] old new x none (λ q. refl) t a

-- x was deleted
pub removed_less : (assigned : List (ℕ × ℕ)) (old new : List (List (Option (List ℕ)))) (x : ℕ) → TellContainment assigned old → Removes x old new → TellContainment assigned new
removed_less assigned old new x t a p q h = elim (cases_eq p x) [
  | inl e ↦ absurd (true≢false (sym h ∙ a.live p ∙ rw (eq-eqb p x e) refl))
  | inr ne ↦ a.related p q ∙ rw (ne-eqb p x ne) (t p q (sym (a.live p ∙ rw (ne-eqb p x ne) refl) ∙ h))
]

-- a number below the next one
pub lt-next : (y x : ℕ) → (y == x || nat_lt y x) ≡ nat_lt y (x + 1)
lt-next y x = elim (cases_lt y x) [
  | inl l ↦ (let next : y < x + 1 = omega arith in rw (lt-ltb y x l, lt-ltb y (x + 1) next) (either (y == x)))
  | inr l ↦ elim (cases_eq y x) [
    | inl e ↦ rw (e, eq-eqb x x refl, lt-ltb x (x + 1) (omega arith)) refl
    | inr ne ↦ (let past : x + 1 ≤ y = omega arith in rw (le-ltb y x l, le-ltb y (x + 1) past, ne-eqb y x ne) refl)
  ]
] where
  either : (b : Bool) → (b || true) ≡ true
  either true = refl
  either false = refl

pub not-below : (x : ℕ) → nat_lt x x ≡ false
not-below x = le-ltb x x (omega arith)

-- the opening's elements before they are assigned, and with one assignment
pub none-assigned : (rows : List (List (Option (List ℕ)))) → ((x : ℕ) → has rows x ≡ nat_lt x 3) → TellContainment [] rows → below rows 1 2 ≡ false
unfolding contained
none-assigned rows live t = t 1 2 (live 1)

pub one-assigned : (rows : List (List (Option (List ℕ)))) → ((x : ℕ) → has rows x ≡ nat_lt x 3) → TellContainment ((2, 1) ∷ []) rows → below rows 0 1 ≡ false
unfolding contained
one-assigned rows live t = t 0 1 (live 0)

-- without assignments an element is contained in itself alone
pub alone_unassigned : (rows : List (List (Option (List ℕ)))) → TellContainment [] rows → (p x : ℕ) → below rows p x ≡ true → p ≡ x
unfolding contained
alone_unassigned rows t p x h = eqb-true p x (sym (t p x (has_below rows p x h)) ∙ h)
