-- A list among others, by what it is of: what comes, goes or changes there.
use Rattle.std.proofs.Common.{◌≡◌, ◌≤◌, ◌<◌, ◌+◌, ◌==◌, ℕ, Bool, true, false, nat_lt, List, [], ◌∷◌, map, cond, Option, Some, None, option_map, Contains, inl, inr, refl, subst, arith, eq-eqb}
use Rattle.std.proofs.lemmas.Bool.{eqb-true, ltb-true, ne_eqb}
use Rattle.pm_model.specs.Formed.{Each}
use Rattle.pm_model.specs.KeptReviews.{is_same}
use Rattle.pm_model.specs.declared.reviews.Pair.{Pair}
use Rattle.pm_model.specs.declared.reviews.ReviewOf.{ReviewOf}
use Rattle.pm_model.specs.declared.reviews.ReviewOf.TheVariants.{Caps, Entries}
use Rattle.pm_laws.proofs.Items.{contains-cases, contains-none, each-from}
use Rattle.pm_affect.specs.Lists.{Listed, Lists, Rise, inserted, list_in, listing, pairs_of_some, removed, subjects, with_list, without_list}

module _ (n : ℕ) where
  -- the first one, or one behind it
  some-first : (k : Listed) (ks : List Listed) → pairs_of_some n (k ∷ ks) ≡ cond (k.subject == n) (Some k.pairs) (pairs_of_some n ks)
  some-first k ks = of (k.subject == n) refl where
    of : (b : Bool) → (k.subject == n) ≡ b → pairs_of_some n (k ∷ ks) ≡ cond (k.subject == n) (Some k.pairs) (pairs_of_some n ks)
    of true is = rw is refl
    of false is = rw is refl

  -- one that comes
  abbrev IsWith : ℕ → List Pair → List Listed → Type 0
  IsWith m ps ks = pairs_of_some n (with_list (listing m ps) ks) ≡ cond (m == n) (Some ps) (pairs_of_some n ks)

  some-with : (m : ℕ) (ps : List Pair) (ks : List Listed) → IsWith m ps ks
  some-with m ps [] = some-first (listing m ps) []
  some-with m ps (k ∷ ks) = of (nat_lt k.subject m) refl (k.subject == n) refl (some-with m ps ks) where
    of : (b : Bool) → nat_lt k.subject m ≡ b → (e : Bool) → (k.subject == n) ≡ e → IsWith m ps ks → IsWith m ps (k ∷ ks)
    of false at e is rest = rw at (some-first (listing m ps) (k ∷ ks))
    of true at false is rest = rw (at, some-first k (with_list (listing m ps) ks), some-first k ks, is) rest
    of true at true is rest =
        let low : k.subject < m = ltb-true k.subject m at in
        let here : k.subject ≡ n = eqb-true k.subject n is in
        let other : (m == n) ≡ false = ne_eqb m n (λ same. omega (arith, low, here, same)) in
        rw (at, some-first k (with_list (listing m ps) ks), some-first k ks, is, other) refl

  -- one that goes
  abbrev no_pairs : Option (List Pair)
  no_pairs = None

  abbrev IsWithout : ℕ → List Listed → Type 0
  IsWithout m ks = pairs_of_some n (without_list m ks) ≡ cond (m == n) None (pairs_of_some n ks)

  some-without : (m : ℕ) (ks : List Listed) → IsWithout m ks
  some-without m [] = of (m == n) where
    of : (b : Bool) → no_pairs ≡ cond b None no_pairs
    of true = refl
    of false = refl
  some-without m (k ∷ ks) = of (k.subject == m) refl (k.subject == n) refl (m == n) refl (some-without m ks) where
    of : (b : Bool) → (k.subject == m) ≡ b → (e : Bool) → (k.subject == n) ≡ e → (d : Bool) → (m == n) ≡ d → IsWithout m ks → IsWithout m (k ∷ ks)
    of true at e is true same rest = rw (at, same) (rw same at rest)
    of true at true is false same rest = absurd (
        let here : k.subject ≡ m = eqb-true k.subject m at in
        let there : k.subject ≡ n = eqb-true k.subject n is in
        let yes : (m == n) ≡ true = eq-eqb m n (omega (arith, here, there)) in cc)
    of true at false is false same rest = rw (at, same, some-first k ks, is) (rw same at rest)
    of false at true is true same rest = absurd (
        let here : m ≡ n = eqb-true m n same in
        let there : k.subject ≡ n = eqb-true k.subject n is in
        let yes : (k.subject == m) ≡ true = eq-eqb k.subject m (omega (arith, here, there)) in cc)
    of false at true is false same rest = rw (at, some-first k (without_list m ks), some-first k ks, is, same) refl
    of false at false is d same rest = rw (at, some-first k (without_list m ks), some-first k ks, is) rest

  -- all are changed
  pub some-map : (f : Listed → Listed) (ps : List Pair) → ((k : Listed) → (f k).subject ≡ k.subject) →
      ((k : Listed) → k.subject ≡ n → (f k).pairs ≡ ps) → (ks : List Listed) →
      pairs_of_some n (map f ks) ≡ option_map (λ (qs : List Pair). ps) (pairs_of_some n ks)
  some-map f ps same is [] = refl
  some-map f ps same is (k ∷ ks) = of (k.subject == n) refl (some-map f ps same is ks) where
    of : (b : Bool) → (k.subject == n) ≡ b → pairs_of_some n (map f ks) ≡ option_map (λ (qs : List Pair). ps) (pairs_of_some n ks) →
        pairs_of_some n (map f (k ∷ ks)) ≡ option_map (λ (qs : List Pair). ps) (pairs_of_some n (k ∷ ks))
    of true at rest = rw (some-first (f k) (map f ks), some-first k ks, same k, at, is k (eqb-true k.subject n at)) refl
    of false at rest = rw (some-first (f k) (map f ks), some-first k ks, same k, at) rest

-- ---- where subjects rise, each is found by its own

rise-least : (low : ℕ) (ks : List Listed) (k : Listed) → Rise low (subjects ks) → Contains ks k → low ≤ k.subject
rise-least low [] k h c = contains-none k c
rise-least low (a ∷ ks) k h c = elim (contains-cases a k ks c) [
  | inl first ↦ subst (λ (k : Listed). low ≤ k.subject) first h.0
  | inr below ↦ let later = rise-least (a.subject + 1) ks k h.1 below in omega (arith, later, h.0)
]

some-at : (low : ℕ) (ks : List Listed) (k : Listed) → Rise low (subjects ks) → Contains ks k → pairs_of_some k.subject ks ≡ Some k.pairs
some-at low [] k h c = contains-none k c
some-at low (a ∷ ks) k h c = elim (contains-cases a k ks c) [
  | inl first ↦ rw (some-first k.subject a ks, first, eq-eqb k.subject k.subject refl) refl
  | inr below ↦
      let later = rise-least (a.subject + 1) ks k h.1 below in
      rw (some-first k.subject a ks, ne_eqb a.subject k.subject (λ same. omega (arith, later, same))) (some-at (a.subject + 1) ks k h.1 below)
]

pub each-some : (ks : List Listed) → Rise 0 (subjects ks) → Each (λ (k : Listed). pairs_of_some k.subject ks ≡ Some k.pairs) ks
each-some ks h = each-from (λ (k : Listed). pairs_of_some k.subject ks ≡ Some k.pairs) ks (λ k c. some-at 0 ks k h c)

-- ---- of both kinds

pub in-inserted : (of to : ReviewOf ℕ) (ps : List Pair) (L : Lists) → list_in (inserted of ps L) to ≡ cond (is_same of to) (Some ps) (list_in L to)
in-inserted (Caps u) (Caps v) ps L = some-with v u ps L.caps
in-inserted (Caps u) (Entries e) ps L = refl
in-inserted (Entries d) (Caps v) ps L = refl
in-inserted (Entries d) (Entries e) ps L = some-with e d ps L.entries

pub in-removed : (of to : ReviewOf ℕ) (L : Lists) → list_in (removed of L) to ≡ cond (is_same of to) None (list_in L to)
in-removed (Caps u) (Caps v) L = some-without v u L.caps
in-removed (Caps u) (Entries e) L = refl
in-removed (Entries d) (Caps v) L = refl
in-removed (Entries d) (Entries e) L = some-without e d L.entries
