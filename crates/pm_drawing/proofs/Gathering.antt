-- What is gathered of a list for all the numbers that its items have are its items.
use Rattle.std.proofs.Common.{◌≡◌, ◌==◌, ℕ, Bool, true, false, List, [], ◌∷◌, ◌++◌, filter, map, Contains, inl, inr, refl, sym, ◌∙◌, ap}
use Rattle.std.specs.List.{list_any}
use Rattle.std.proofs.lemmas.Bool.{cases_Bool, eqb-true, or_parts}
use Rattle.std.proofs.lemmas.List.Elements.{Contains-append_cases, Contains-append_left, Contains-append_right, filter-append}
use Rattle.pm_laws.proofs.Items.{contains-cases, contains-filter, contains-first, contains-none, contains-rest, filter-contains, none-at, none-from}
use Rattle.pm_model.specs.Containment.{containers}
use Rattle.pm_model.specs.Decision.{associations_of, is_grantee, of_grantee}
use Rattle.pm_model.specs.Effect.{is_from}
use Rattle.pm_model.specs.declared.rights.Association.{Association}
use Rattle.pm_model.specs.declared.rights.Grant.{Grant}
use Rattle.pm_model.specs.declared.rights.Grantee.{Grantee}
use Rattle.pm_drawing.specs.Gathered.{gathered, is_of_attribute}
use Rattle.pm_policy.proofs.Sorted.{once-kept}
use Rattle.pm_policy.specs.Sound.{AreOnce}

module _ {X : Type 0} (is_of : ℕ → X → Bool) where
  pub gathered-has : (ns : List ℕ) (xs : List X) (n : ℕ) (x : X) → Contains ns n → Contains xs x → is_of n x ≡ true → Contains (gathered is_of ns xs) x
  gathered-has [] xs n x there c is = contains-none n there
  gathered-has (m ∷ ns) xs n x there c is = elim (contains-cases m n ns there) [
    | inl same ↦ Contains-append_left (filter (is_of m) xs) (gathered is_of ns xs) x (contains-filter (is_of m) xs x c (rw same is))
    | inr below ↦ Contains-append_right (filter (is_of m) xs) (gathered is_of ns xs) x (gathered-has ns xs n x below c is)
  ]

  pub has-gathered : (ns : List ℕ) (xs : List X) (x : X) → Contains (gathered is_of ns xs) x → Contains xs x
  has-gathered [] xs x c = contains-none x c
  has-gathered (n ∷ ns) xs x c = elim (Contains-append_cases (filter (is_of n) xs) (gathered is_of ns xs) x c) [
    | inl here ↦ (filter-contains (is_of n) xs x here).0
    | inr later ↦ has-gathered ns xs x later
  ]

  -- what is gathered is of one of the numbers
  gathered-of : (ns : List ℕ) (xs : List X) (x : X) → Contains (gathered is_of ns xs) x → (n : ℕ) × Contains ns n × (is_of n x ≡ true)
  gathered-of [] xs x c = contains-none x c
  gathered-of (n ∷ ns) xs x c = elim (Contains-append_cases (filter (is_of n) xs) (gathered is_of ns xs) x c) [
    | inl here ↦ (n, contains-first n ns, (filter-contains (is_of n) xs x here).1)
    | inr later ↦ let p = gathered-of ns xs x later in (p.0, contains-rest n p.0 ns p.1, p.2)
  ]

  once-append : (alike : X → X → Bool) (xs ys : List X) → AreOnce alike xs → AreOnce alike ys →
      ((x y : X) → Contains xs x → Contains ys y → alike x y ≡ false) → AreOnce alike (xs ++ ys)
  once-append alike [] ys h k apart = k
  once-append alike (x ∷ xs) ys h k apart = (
    none-from (alike x) (xs ++ ys) (λ y c. elim (Contains-append_cases xs ys y c) [
      | inl mine ↦ none-at (alike x) xs y h.0 mine
      | inr other ↦ apart x y (contains-first x xs) other
    ]),
    once-append alike xs ys h.1 k (λ z y c d. apart z y (contains-rest x z xs c) d),
  )

  -- nothing stands twice where the numbers don't, and what is alike has one number
  pub gathered-once : (alike : X → X → Bool) (ns : List ℕ) (xs : List X) → AreOnce (λ (m n : ℕ). m == n) ns →
      ((m n : ℕ) (x y : X) → (m == n) ≡ false → is_of m x ≡ true → is_of n y ≡ true → alike x y ≡ false) →
      AreOnce alike xs → AreOnce alike (gathered is_of ns xs)
  gathered-once alike [] xs own apart once = tt
  gathered-once alike (n ∷ ns) xs own apart once =
      once-append alike (filter (is_of n) xs) (gathered is_of ns xs) (once-kept alike (is_of n) xs once) (gathered-once alike ns xs own.1 apart once)
      (λ x y c d.
      let p = gathered-of ns xs y d in
      apart n p.0 x y (none-at (λ m. n == m) ns p.0 own.0 p.1) (filter-contains (is_of n) xs x c).1 p.2)

-- ---- the assignments of one element

pub pairs-of : (x : ℕ) (pairs : List (ℕ × ℕ)) → map (λ (y : ℕ). let p : ℕ × ℕ = (x, y) in p) (containers pairs x) ≡ filter (is_from x) pairs
pairs-of x [] = refl
pairs-of x (p ∷ pairs) = elim (cases_Bool (p.0 == x)) [
  | inl is ↦
      let same : p.0 ≡ x = eqb-true p.0 x is in
      rw is (ap (λ l. (x, p.1) ∷ l) (pairs-of x pairs) ∙ ap (λ (m : ℕ). (m, p.1) ∷ filter (is_from x) pairs) (sym same))
  | inr other ↦ rw other (pairs-of x pairs)
]

-- ---- the associations of one user attribute

abbrev pub granted : ℕ → Grant → Association
granted ua h = record { ua = ua; rights = h.rights; at = h.at }

own-all : (ua g : ℕ) (grants : List Grant) → (g == ua) ≡ true → filter (is_of_attribute ua) (map (granted g) grants) ≡ map (granted g) grants
own-all ua g [] is = refl
own-all ua g (h ∷ grants) is = rw is (ap (λ l. granted g h ∷ l) (own-all ua g grants is))

own-none : (ua g : ℕ) (grants : List Grant) → (g == ua) ≡ false → filter (is_of_attribute ua) (map (granted g) grants) ≡ []
own-none ua g [] is = refl
own-none ua g (h ∷ grants) is = rw is (own-none ua g grants is)

pub grants-of : (ua : ℕ) (gs : List Grantee) → associations_of (filter (is_grantee ua) gs) ≡ filter (is_of_attribute ua) (associations_of gs)
grants-of ua [] = refl
grants-of ua (g ∷ gs) = elim (cases_Bool (g.ua == ua)) [
  | inl is ↦ rw (is, filter-append (is_of_attribute ua) (of_grantee g) (associations_of gs), own-all ua g.ua g.grants is)
      (ap (λ l. of_grantee g ++ l) (grants-of ua gs))
  | inr other ↦ rw (other, filter-append (is_of_attribute ua) (of_grantee g) (associations_of gs), own-none ua g.ua g.grants other) (grants-of ua gs)
]

pub none-filtered : {X : Type 0} (test : X → Bool) (xs : List X) → list_any test xs ≡ false → filter test xs ≡ []
none-filtered test [] h = refl
none-filtered test (x ∷ xs) h =
    let p = or_parts (test x) (list_any test xs) h in rw p.0 (none-filtered test xs p.1)
