-- Two lists of the same items, in both of which nothing stands twice, are sorted to one list.
use Rattle.std.proofs.Common.{◌≡◌, ◌&&◌, ℕ, Bool, true, false, List, [], ◌∷◌, bytes_eq, Contains, inl, inr, if◌then◌else◌, refl, sym, ◌∙◌, ap, subst}
use Rattle.std.specs.List.{list_any}
use Rattle.std.specs.Cmp.{IsTotalOrder}
use Rattle.std.specs.Cmp.Lexicographic.{on_texts, slice_cmp}
use Rattle.std.specs.Ordering.{is_eq, is_lt, match_ordering, nat_cmp, ordering_reverse, ordering_then}
use Rattle.std.specs.declared.cmp.Ordering.{Ordering}
use Rattle.std.specs.declared.cmp.Ordering.TheVariants.{Less, Equal, Greater}
use Rattle.std.proofs.lemmas.Bool.{or_parts}
use Rattle.std.proofs.lemmas.Cmp.{then_total, tied_itself}
use Rattle.std.proofs.lemmas.Map.Text.{is_eq-slice_cmp}
use Rattle.pm_laws.proofs.Items.{contains-cases, contains-first, contains-none, contains-rest, each-at, each-from, none-at, none-from}
use Rattle.pm_model.specs.Formed.{Each}
use Rattle.pm_policy.specs.Order.{inserted, leads_before, sorted}
use Rattle.pm_policy.specs.Policy.{is_same}
use Rattle.pm_policy.specs.Requests.{joins_before}
use Rattle.pm_policy.specs.Sound.{AreOnce, has_ends}
use Rattle.pm_policy.specs.declared.policy.DocAssignment.{DocAssignment}
use Rattle.pm_policy.specs.declared.policy.DocAssociation.{DocAssociation}
use Rattle.pm_policy.proofs.Sorted.{has-inserted, has-sorted, sorted-has}

below-lt : (o : Ordering) → match_ordering o true false false ≡ is_lt o
below-lt Less = refl
below-lt Equal = refl
below-lt Greater = refl

pub then-lt : (o q : Ordering) → match_ordering o true (match_ordering q true false false) false ≡ is_lt (ordering_then o q)
then-lt Less q = refl
then-lt Equal q = below-lt q
then-lt Greater q = refl

pub then-eq : (o q : Ordering) → is_eq (ordering_then o q) ≡ (is_eq o && is_eq q)
then-eq Less q = refl
then-eq Equal q = refl
then-eq Greater q = refl

less-is : (o : Ordering) → is_lt o ≡ true → o ≡ Less
less-is Less h = refl
less-is Equal h = absurd (cc)
less-is Greater h = absurd (cc)

greater-is : (o : Ordering) → is_lt o ≡ false → is_eq o ≡ false → o ≡ Greater
greater-is Less h k = absurd (cc)
greater-is Equal h k = absurd (cc)
greater-is Greater h k = refl

module _ {X : Type 0} (R : X → X → Ordering) (o : IsTotalOrder R) (before alike : X → X → Bool)
    (is_before : (x y : X) → before x y ≡ is_lt (R x y)) (is_alike : (x y : X) → alike x y ≡ is_eq (R x y)) where
  never-before : (x : X) → before x x ≡ true → ⊥
  never-before x h =
      let tied : R x x ≡ Equal = tied_itself o x in
      let less : R x x ≡ Less = less-is (R x x) (sym (is_before x x) ∙ h) in cc

  before-trans : (x y z : X) → before x y ≡ true → before y z ≡ true → before x z ≡ true
  before-trans x y z h k =
      is_before x z ∙ ap is_lt (o.trans x y z (less-is (R x y) (sym (is_before x y) ∙ h)) (less-is (R y z) (sym (is_before y z) ∙ k)))

  other-before : (x y : X) → before x y ≡ false → alike x y ≡ false → before y x ≡ true
  other-before x y h k =
      let greater : R x y ≡ Greater = greater-is (R x y) (sym (is_before x y) ∙ h) (sym (is_alike x y) ∙ k) in
      is_before y x ∙ ap is_lt (o.antisymm y x ∙ ap ordering_reverse greater)

  -- each stands before all behind it
  abbrev Rise : List X → Type 0
  Rise [] = Unit {0}
  Rise (x ∷ xs) = Each (λ y. before x y ≡ true) xs × Rise xs

  rise-inserted : (x : X) (xs : List X) → list_any (alike x) xs ≡ false → Rise xs → Rise (inserted before x xs)
  rise-inserted x [] free rise = (tt, tt)
  rise-inserted x (y ∷ ys) free rise = of (before x y) refl (rise-inserted x ys (or_parts (alike x y) (list_any (alike x) ys) free).1 rise.1) where
    apart : (z : X) → Contains (y ∷ ys) z → alike x z ≡ false
    apart z c = none-at (alike x) (y ∷ ys) z free c

    of : (b : Bool) → before x y ≡ b → Rise (inserted before x ys) → Rise (if b then x ∷ y ∷ ys else y ∷ inserted before x ys)
    of true is rest = (
      each-from (λ z. before x z ≡ true) (y ∷ ys) (λ z c. elim (contains-cases y z ys c) [
        | inl same ↦ rw (← same) is
        | inr later ↦ before-trans x y z is (each-at (λ w. before y w ≡ true) ys z rise.0 later)
      ]),
      rise,
    )
    of false is rest = (
      each-from (λ z. before y z ≡ true) (inserted before x ys) (λ z c. elim (has-inserted before x ys z c) [
        | inl new ↦ rw (← new) (other-before x y is (apart y (contains-first y ys)))
        | inr old ↦ each-at (λ w. before y w ≡ true) ys z rise.0 old
      ]),
      rest,
    )

  rise-sorted : (xs : List X) → AreOnce alike xs → Rise (sorted before xs)
  rise-sorted [] once = tt
  rise-sorted (x ∷ xs) once =
      rise-inserted x (sorted before xs) (none-from (alike x) (sorted before xs) (λ z c. none-at (alike x) xs z once.0 (has-sorted before xs z c))) (rise-sorted xs once.1)

  abbrev Within : List X → List X → Type 0
  Within xs ys = (z : X) → Contains xs z → Contains ys z

  behind : (x : X) (xs : List X) (y : X) (ys : List X) → x ≡ y → Each (λ z. before x z ≡ true) xs → Within (x ∷ xs) (y ∷ ys) → Within xs ys
  behind x xs y ys same rise sub z c = elim (contains-cases y z ys (sub z (contains-rest x z xs c))) [
    | inl first ↦ absurd (never-before x (subst (λ w. before x w ≡ true) (sym (same ∙ first)) (each-at (λ w. before x w ≡ true) xs z rise c)))
    | inr later ↦ later
  ]

  first-same : (x : X) (xs : List X) (y : X) (ys : List X) → Rise (x ∷ xs) → Rise (y ∷ ys) → Within (x ∷ xs) (y ∷ ys) → Within (y ∷ ys) (x ∷ xs) → x ≡ y
  first-same x xs y ys rise more to from = elim (contains-cases y x ys (to x (contains-first x xs))) [
    | inl same ↦ sym same
    | inr later ↦ elim (contains-cases x y xs (from y (contains-first y ys))) [
      | inl same ↦ same
      | inr also ↦ absurd (never-before x (before-trans x y x
          (each-at (λ w. before x w ≡ true) xs y rise.0 also) (each-at (λ w. before y w ≡ true) ys x more.0 later)))
    ]
  ]

  rise-same : (xs ys : List X) → Rise xs → Rise ys → Within xs ys → Within ys xs → xs ≡ ys
  rise-same [] [] rise more to from = refl
  rise-same [] (y ∷ ys) rise more to from = contains-none y (from y (contains-first y ys))
  rise-same (x ∷ xs) [] rise more to from = contains-none x (to x (contains-first x xs))
  rise-same (x ∷ xs) (y ∷ ys) rise more to from =
      let same = first-same x xs y ys rise more to from in
      let rest = rise-same xs ys rise.1 more.1 (behind x xs y ys same rise.0 to) (behind y ys x xs (sym same) more.0 from) in cc

  pub sorted-same : (xs ys : List X) → AreOnce alike xs → AreOnce alike ys → Within xs ys → Within ys xs → sorted before xs ≡ sorted before ys
  sorted-same xs ys once own to from =
      rise-same (sorted before xs) (sorted before ys) (rise-sorted xs once) (rise-sorted ys own)
      (λ z c. sorted-has before ys z (to z (has-sorted before xs z c)))
      (λ z c. sorted-has before xs z (from z (has-sorted before ys z c)))

-- ---- by names

texts-total : {X : Type 0} (f g : X → List ℕ) → IsTotalOrder (λ (x y : X). ordering_then (slice_cmp nat_cmp (f x) (f y)) (slice_cmp nat_cmp (g x) (g y)))
texts-total f g = then_total (on_texts f) (on_texts g)

texts-eq : (a b c d : List ℕ) → (bytes_eq a c && bytes_eq b d) ≡ is_eq (ordering_then (slice_cmp nat_cmp a c) (slice_cmp nat_cmp b d))
texts-eq a b c d =
    sym (then-eq (slice_cmp nat_cmp a c) (slice_cmp nat_cmp b d) ∙ ap (λ t. t && is_eq (slice_cmp nat_cmp b d)) (is_eq-slice_cmp a c)
    ∙ ap (λ t. bytes_eq a c && t) (is_eq-slice_cmp b d))

pub assignments-same : (ps qs : List DocAssignment) → AreOnce is_same ps → AreOnce is_same qs → ((p : DocAssignment) → Contains ps p → Contains qs p) →
    ((p : DocAssignment) → Contains qs p → Contains ps p) → sorted leads_before ps ≡ sorted leads_before qs
assignments-same = sorted-same _ (texts-total (λ (p : DocAssignment). p.from) (λ (p : DocAssignment). p.to)) leads_before is_same
    (λ p q. then-lt (slice_cmp nat_cmp p.from q.from) (slice_cmp nat_cmp p.to q.to)) (λ p q. texts-eq p.from p.to q.from q.to)

pub associations-same : (as_ bs : List DocAssociation) → AreOnce has_ends as_ → AreOnce has_ends bs → ((a : DocAssociation) → Contains as_ a → Contains bs a) →
    ((a : DocAssociation) → Contains bs a → Contains as_ a) → sorted joins_before as_ ≡ sorted joins_before bs
associations-same = sorted-same _ (texts-total (λ (a : DocAssociation). a.ua) (λ (a : DocAssociation). a.at)) joins_before has_ends
    (λ a b. then-lt (slice_cmp nat_cmp a.ua b.ua) (slice_cmp nat_cmp a.at b.at)) (λ a b. texts-eq a.ua a.at b.ua b.at)
