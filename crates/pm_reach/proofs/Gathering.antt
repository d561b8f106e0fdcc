-- A row put together from those of the containers.
use Rattle.std.proofs.Common.{◌≡◌, ℕ, suc, ◌+◌, ◌*◌, ◌<◌, ◌≤◌, Bool, true, false, not, nat_lt, List, [], ◌∷◌, length, get_or, take, slice_get, Option, Some, Contains, ◌⊎◌, inl, inr, refl, sym, ap, ◌∙◌, ◌||◌, ◌&&◌, ◌==◌, arith}
use Rattle.std.specs.List.{list_any}
use Rattle.std.proofs.lemmas.Bool.{cases_lt, cases_eq, ne_eqb, true≢false, false≢true, eq-eqb, eqb-true, le-ltb, lt-ltb}
use Rattle.std.proofs.lemmas.Option.{get_or_from_slice_get, slice_get_within}
use Rattle.std.proofs.lemmas.List.Folds.{list_any_at, list_any_more}
use Rattle.pm_model.specs.Containment.{contained, containers, Leads, IsContained}
use Rattle.pm_model.proofs.ContainmentLaws.{contained-itself, contained-trans, contained-pair, contained-from_path, path-from_contained, contains-containers, containers-contains}
use Rattle.pm_reach.specs.Words.{in_row}
use Rattle.pm_reach.specs.Rows.{has, below}
use Rattle.pm_reach.specs.Table.{Table}
use Rattle.pm_reach.specs.Passes.{Passed, TellSoFar, AreWithin, IsLast, IsRising}
use Rattle.pm_reach.proofs.Orders.{or-cases, and-both}
use Rattle.pm_reach.proofs.Passing.{has_below, same_below}

same_tests : (a b : Bool) → (a ≡ true → b ≡ true) → (b ≡ true → a ≡ true) → a ≡ b
same_tests true b f g = sym (f refl)
same_tests false true f g = g refl
same_tests false false f g = refl

or-left : (a b : Bool) → a ≡ true → (a || b) ≡ true
or-left a b h = rw h refl

or-right : (a b : Bool) → b ≡ true → (a || b) ≡ true
or-right true b h = refl
or-right false b h = h

any-found : (test : ℕ → Bool) (xs : List ℕ) → list_any test xs ≡ true → (w : ℕ) × Contains xs w × (test w ≡ true)
any-found test [] h = absurd (false≢true h)
any-found test (x ∷ xs) h = elim (or-cases (test x) (list_any test xs) h) [
  | inl t ↦ (x, (0, omega arith, refl), t)
  | inr l ↦ let r = any-found test xs l in (r.0, (suc r.1.0, omega (arith, r.1.1), r.1.2), r.2)
]

any-made : (test : ℕ → Bool) (xs : List ℕ) (w : ℕ) → Contains xs w → test w ≡ true → list_any test xs ≡ true
any-made test xs w c t = list_any_at test xs c.0 w c.1 (rw (c.2) t)

pub at_place : (xs : List ℕ) (i w : ℕ) → slice_get xs i ≡ Some w → Contains xs w
at_place xs i w h = (i, slice_get_within xs i w h, get_or_from_slice_get xs i w w h)

-- an element that isn't z is contained in q
abbrev pub other_in : List (ℕ × ℕ) → ℕ → ℕ → ℕ → Bool
other_in assigned z q w = not (w == z) && contained assigned w q

-- z, and what the first containers of z are contained in
abbrev pub gathered : List (ℕ × ℕ) → ℕ → ℕ → ℕ → Bool
gathered assigned z i q = q == z || list_any (other_in assigned z q) (take i (containers assigned z))

module _ (assigned : List (ℕ × ℕ)) (z : ℕ) where
  -- what z is contained in is z, and what one of its other containers is contained in
  by-containers : (q : ℕ) → (q == z || list_any (other_in assigned z q) (containers assigned z)) ≡ contained assigned z q
  by-containers q = same_tests _ _ to from where
    to : (q == z || list_any (other_in assigned z q) (containers assigned z)) ≡ true → contained assigned z q ≡ true
    to h = elim (or-cases (q == z) (list_any (other_in assigned z q) (containers assigned z)) h) [
      | inl e ↦ rw (eqb-true q z e) (contained-itself assigned z)
      | inr l ↦
          let f = any-found (other_in assigned z q) (containers assigned z) l in
          contained-trans assigned z f.0 q (contained-pair assigned z f.0 (containers-contains assigned z f.0 f.1))
          (and-both (not (f.0 == z)) (contained assigned f.0 q) f.2).1
    ]

    along : (path : List ℕ) → Leads assigned z path q → (q == z || list_any (other_in assigned z q) (containers assigned z)) ≡ true
    along [] l = or-left (q == z) _ (eq-eqb q z (sym l))
    along (w ∷ rest) l = elim (cases_eq w z) [
      | inl same ↦ along rest (rw same at l.1)
      | inr other ↦
          or-right (q == z) (list_any (other_in assigned z q) (containers assigned z))
          (any-made (other_in assigned z q) (containers assigned z) w (contains-containers assigned z w l.0)
          (rw (ne_eqb w z other) (contained-from_path assigned w rest q l.1)))
    ]

    from : contained assigned z q ≡ true → (q == z || list_any (other_in assigned z q) (containers assigned z)) ≡ true
    from h = let p : IsContained assigned z q = path-from_contained assigned z q h in along p.0 p.1

  pub gathered-none : (row new : List ℕ) → ((q : ℕ) → in_row row q ≡ false) → ((q : ℕ) → in_row new q ≡ (q == z || in_row row q)) →
      (q : ℕ) → in_row new q ≡ gathered assigned z 0 q
  gathered-none row new none set q = set q ∙ ap (λ b. q == z || b) (none q)

  pub gathered-more : (row new : List ℕ) (other : ℕ → Bool) (i w : ℕ) → i < length (containers assigned z) → get_or (containers assigned z) i 0 ≡ w →
      (w ≡ z → ⊥) → ((q : ℕ) → in_row row q ≡ gathered assigned z i q) → ((q : ℕ) → in_row new q ≡ (in_row row q || other q)) →
      ((q : ℕ) → other q ≡ contained assigned w q) → (q : ℕ) → in_row new q ≡ gathered assigned z (i + 1) q
  gathered-more row new other i w short is apart held joined told q =
      joined q ∙ rw (held q, told q, list_any_more (other_in assigned z q) (containers assigned z) i 0 short, is, ne_eqb w z apart)
      (or-turned (q == z) (list_any (other_in assigned z q) (take i (containers assigned z))) (contained assigned w q)) where
        or-turned : (a b c : Bool) → ((a || b) || c) ≡ (a || (b || c))
        or-turned true b c = refl
        or-turned false b c = refl

  -- z itself adds nothing
  pub gathered-same : (row : List ℕ) (i w : ℕ) → i < length (containers assigned z) → get_or (containers assigned z) i 0 ≡ w → w ≡ z →
      ((q : ℕ) → in_row row q ≡ gathered assigned z i q) → (q : ℕ) → in_row row q ≡ gathered assigned z (i + 1) q
  gathered-same row i w short is same held q =
      held q ∙ rw (list_any_more (other_in assigned z q) (containers assigned z) i 0 short, is, same, eq-eqb z z refl)
      (or-none (q == z) (list_any (other_in assigned z q) (take i (containers assigned z)))) where
        or-none : (a b : Bool) → (a || b) ≡ (a || (b || false))
        or-none true b = refl
        or-none false true = refl
        or-none false false = refl

  pub gathered-all : (row : List ℕ) (i : ℕ) → i ≡ length (containers assigned z) → ((q : ℕ) → in_row row q ≡ gathered assigned z i q) →
      (q : ℕ) → in_row row q ≡ contained assigned z q
  gathered-all row i long held q = held q ∙ rw (long, take-all (containers assigned z)) (by-containers q) where
    take-all : (xs : List ℕ) → take (length xs) xs ≡ xs
    take-all [] = refl
    take-all (x ∷ xs) = ap (λ ys. x ∷ ys) (take-all xs)

-- what is final tells
pub final-tells : (assigned : List (ℕ × ℕ)) (rows : List (List (Option (List ℕ)))) (x z w : ℕ) → TellSoFar assigned rows x z → has rows w ≡ true →
    true ≡ (nat_lt w z || not (below rows w x)) → (q : ℕ) → below rows w q ≡ contained assigned w q
final-tells assigned rows x z w told there final q = go (below rows w x) refl where
  go : (b : Bool) → below rows w x ≡ b → below rows w q ≡ contained assigned w q
  go false e = told.outside w q there e
  go true e = elim (cases_lt w z) [
    | inl l ↦ told.before w q there l
    | inr l ↦ absurd (true≢false (final ∙ rw (e, le-ltb w z l) refl))
  ]

-- a container of z that is contained in x is final where its number isn't higher, but for z itself
pub last_final : (assigned : List (ℕ × ℕ)) (rows : List (List (Option (List ℕ)))) (x z w : ℕ) → IsLast assigned rows x z → Contains (containers assigned z) w →
    (w ≡ z → ⊥) → (nat_lt w z || not (below rows w x)) ≡ true
last_final assigned rows x z w last held apart = go (below rows w x) refl where
  go : (b : Bool) → below rows w x ≡ b → (nat_lt w z || not b) ≡ true
  go false e = or-right (nat_lt w z) true refl
  go true e =
      let most : w ≤ z = last w e (contained-pair assigned z w (containers-contains assigned z w held)) in
      or-left (nat_lt w z) false (lt-ltb w z (omega (arith, most, apart)))

-- ---- in the middle of a pass

module _ {x n : ℕ} (assigned : List (ℕ × ℕ)) {old now : Table} {z written : ℕ} (a : Passed x n (contained assigned) old now z written) where
  pub passed-tell : ((p q : ℕ) → has old.rows p ≡ true → below old.rows p x ≡ false → below old.rows p q ≡ contained assigned p q) →
      TellSoFar assigned now.rows x z
  passed-tell outside = record {
    before = λ w q h l. elim (either (below old.rows w x)) [
      | inl e ↦ a.within w l e q
      | inr e ↦ kept w q h e
    ];
    outside = λ w q h out. elim (either (below old.rows w x)) [
      | inl e ↦ elim (cases_lt w z) [
        | inl l ↦ a.within w l e q
        | inr l ↦ absurd (true≢false (sym e ∙ sym (same_below (a.rest w l) x) ∙ out))
      ]
      | inr e ↦ kept w q h e
    ];
  } where
    either : (b : Bool) → (b ≡ true) ⊎ (b ≡ false)
    either true = inl refl
    either false = inr refl

    kept : (w q : ℕ) → has now.rows w ≡ true → below old.rows w x ≡ false → below now.rows w q ≡ contained assigned w q
    kept w q h e = same_below (a.others w e) q ∙ outside w q (sym (a.live w) ∙ h) e

  pub passed-within : (m : ℕ) → ((p q : ℕ) → has old.rows p ≡ true → contained assigned p q ≡ true → below old.rows p q ≡ true) →
      AreWithin m old.rows → AreWithin m now.rows
  passed-within m less within p q h = go (below old.rows p x) refl where
    go : (b : Bool) → below old.rows p x ≡ b → q < 64 * m
    go false e = within p q (sym (same_below (a.others p e) q) ∙ h)
    go true e = elim (cases_lt p z) [
      | inl l ↦ within p q (less p q (has_below old.rows p x e) (sym (a.within p l e q) ∙ h))
      | inr l ↦ within p q (sym (same_below (a.rest p l) q) ∙ h)
    ]

  pub passed-last : ((p q : ℕ) → has old.rows p ≡ true → contained assigned p q ≡ true → below old.rows p q ≡ true) → IsRising old.rows x →
      below old.rows z x ≡ true → IsLast assigned now.rows x z
  passed-last less rising here w h up = go (below old.rows w x) refl where
    go : (b : Bool) → below old.rows w x ≡ b → w ≤ z
    go true e = rising z w here e (less z w (has_below old.rows z x here) up)
    go false e = absurd (true≢false (sym h ∙ same_below (a.others w e) x ∙ e))
