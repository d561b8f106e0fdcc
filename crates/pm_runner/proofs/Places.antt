-- Lists of places, one more at a time.
use Rattle.std.proofs.Common.{◌≡◌, ℕ, ◌+◌, ◌-◌, ◌<◌, ◌≤◌, ◌⊎◌, zero, suc, Bool, true, false, List, [], ◌∷◌, ◌++◌, length, take, filter, Option, None, Some, option_map, slice_get, refl, sym, ◌∙◌, ap, subst, All, add-one, inl, inr, arith}
use Rattle.std.proofs.Math.Dec.{leb}
use Rattle.std.proofs.Math.Seq.{take-suc}
use Rattle.std.proofs.lemmas.Bool.{eqb-true, eqb-false}
use Rattle.std.proofs.lemmas.Bool.Decides.{leb_tells}
use Rattle.std.proofs.lemmas.Option.{same_Some, slice_get_within, get_or_from_slice_get, slice_get-map, slice_get_cases}
use Rattle.std.proofs.lemmas.List.{map-append, append-nil, length-append, length-map, length-take-le}
use Rattle.std.proofs.lemmas.List.Elements.{All-nil, All-cons, All-append, All-get_or, filter-append}
use Rattle.std.proofs.lemmas.List.Edits.{remove-append_left, remove-append_right}
use Rattle.std.specs.List.{remove}
use Rattle.pm_model.specs.Containment.{Relation}
use Rattle.pm_model.specs.Obligations.{matching}
use Rattle.pm_model.specs.declared.obligations.Obligation.{Obligation}
use Rattle.pm_model.specs.declared.events.Event.{Event}
use Rattle.pm_pattern.specs.Live.{IsPatternLive}
use Rattle.pm_runner.specs.Standing.{StandAt, ArePatternsLive, is_at, without}

pub take-item : {X : Type 0} (xs : List X) (i : ℕ) (x : X) → slice_get xs i ≡ Some x → take (i + 1) xs ≡ take i xs ++ x ∷ []
take-item xs i x is =
    let below : i < length xs = slice_get_within xs i x is in
    rw (add-one, take-suc xs i x below, get_or_from_slice_get xs i x x is)

-- a place below the length has an item
pub item-there : {X : Type 0} (xs : List X) (i : ℕ) → i < length xs → (x : X) × (slice_get xs i ≡ Some x)
item-there xs i below = elim (slice_get_cases xs i).1 [ inl there ↦ (there.0, there.2) | inr past ↦ absurd (omega arith) ]

-- ---- but for the one that is left out

remove-past : {X : Type 0} (xs : List X) (i : ℕ) → length xs ≤ i → remove xs i ≡ xs
remove-past [] zero past = refl
remove-past [] (suc i) past = refl
remove-past (x ∷ xs) zero past = absurd (omega arith)
remove-past (x ∷ xs) (suc i) past = ap (λ rest. x ∷ rest) (remove-past xs i (omega arith))

taken-length : {X : Type 0} (xs : List X) (i : ℕ) (x : X) → slice_get xs i ≡ Some x → length (take i xs) ≡ i
taken-length xs i x is = let below : i < length xs = slice_get_within xs i x is in length-take-le i xs (omega arith)

-- it adds nothing
pub left-out : {X : Type 0} (w : Option ℕ) (xs : List X) (i : ℕ) (x : X) → slice_get xs i ≡ Some x → is_at w i ≡ true →
    without w (take (i + 1) xs) ≡ without w (take i xs)
left-out None xs i x is at = absurd (cc)
left-out (Some k) xs i x is at =
    let here : k ≡ i = eqb-true k i at in
    let long = taken-length xs i x is in
    let none : i - i ≡ 0 = omega arith in
    rw (here, take-item xs i x is, remove-append_right (take i xs) (x ∷ []) i i long (omega arith), none)
    (append-nil (take i xs) ∙ sym (remove-past (take i xs) i (omega (arith, long))))

-- any other one is added
pub added : {X : Type 0} (w : Option ℕ) (xs : List X) (i : ℕ) (x : X) → slice_get xs i ≡ Some x → is_at w i ≡ false →
    without w (take (i + 1) xs) ≡ without w (take i xs) ++ x ∷ []
added None xs i x is other = take-item xs i x is
added (Some k) xs i x is other = rw (take-item xs i x is) (of (leb_tells i k)) where
  of : ((leb i k ≡ true) × (i ≤ k)) ⊎ ((leb i k ≡ false) × (k < i)) → remove (take i xs ++ x ∷ []) k ≡ remove (take i xs) k ++ x ∷ []
  of (inr before) = let at = before.1 in let long = taken-length xs i x is in remove-append_left (take i xs) (x ∷ []) k (omega (arith, long, at))
  of (inl past) =
      let at = past.1 in
      let long = taken-length xs i x is in
      let apart : ¬ (k ≡ i) = eqb-false k i other in
      remove-past (take i xs ++ x ∷ []) k (omega (arith, length-append (take i xs) (x ∷ []), long, at, apart))
      ∙ ap (λ ys. ys ++ x ∷ []) (sym (remove-past (take i xs) k (omega (arith, long, at))))

-- ---- those that pass a test

module _ {X : Type 0} (p : X → Bool) (w : Option ℕ) (xs : List X) (places : List ℕ) (i : ℕ) (x : X) where
  pub one-passes : StandAt xs places (filter p (without w (take i xs))) → slice_get xs i ≡ Some x → is_at w i ≡ false → true ≡ p x →
      StandAt xs (places ++ i ∷ []) (filter p (without w (take (i + 1) xs)))
  one-passes stand is other passes =
      let those = filter p (without w (take i xs)) in
      rw (added w xs i x is other, filter-append p (without w (take i xs)) (x ∷ []), ← passes, map-append (slice_get xs) places (i ∷ []), map-append Some those (x ∷ []), stand, is)

  pub one-fails : StandAt xs places (filter p (without w (take i xs))) → slice_get xs i ≡ Some x → is_at w i ≡ false → false ≡ p x →
      StandAt xs places (filter p (without w (take (i + 1) xs)))
  one-fails stand is other fails =
      rw (added w xs i x is other, filter-append p (without w (take i xs)) (x ∷ []), ← fails, append-nil) stand

  pub one-left-out : StandAt xs places (filter p (without w (take i xs))) → i < length xs → is_at w i ≡ true →
      StandAt xs places (filter p (without w (take (i + 1) xs)))
  one-left-out stand below at = let there = item-there xs i below in rw (left-out w xs i there.0 there.1 at) stand

-- where none of all passes, none does without one
none-passes : {X : Type 0} (p : X → Bool) (x : X) (xs : List X) → filter p (x ∷ xs) ≡ [] → (p x ≡ false) × (filter p xs ≡ [])
none-passes p x xs none = of (p x) refl where
  of : (b : Bool) → p x ≡ b → (p x ≡ false) × (filter p xs ≡ [])
  of true is = absurd (let some : x ∷ filter p xs ≡ [] = rw is at none in cc)
  of false is = (is, rw is at none)

-- and so the one at a place fails
fails-at : {X : Type 0} (p : X → Bool) (xs : List X) (i : ℕ) (x : X) → slice_get xs i ≡ Some x → filter p xs ≡ [] → p x ≡ false
fails-at p [] i x is none = absurd (cc)
fails-at p (y ∷ ys) zero x is none = ap p (sym (same_Some y x is)) ∙ (none-passes p y ys none).0
fails-at p (y ∷ ys) (suc i) x is none = fails-at p ys i x is (none-passes p y ys none).1

fails-beside : {X : Type 0} (p : X → Bool) (xs : List X) (k i : ℕ) (x : X) → slice_get xs i ≡ Some x → ¬ (k ≡ i) → filter p (remove xs k) ≡ [] → p x ≡ false
fails-beside p [] k i x is other none = absurd (cc)
fails-beside p (y ∷ ys) zero zero x is other none = absurd (other refl)
fails-beside p (y ∷ ys) zero (suc i) x is other none = fails-at p ys i x is none
fails-beside p (y ∷ ys) (suc k) zero x is other none = ap p (sym (same_Some y x is)) ∙ (none-passes p y (remove ys k) none).0
fails-beside p (y ∷ ys) (suc k) (suc i) x is other none =
    fails-beside p ys k i x is (λ same. other (ap suc same)) (none-passes p y (remove ys k) none).1

pub fails-left : {X : Type 0} (p : X → Bool) (w : Option ℕ) (xs : List X) (i : ℕ) (x : X) → slice_get xs i ≡ Some x → is_at w i ≡ false →
    filter p (without w xs) ≡ [] → p x ≡ false
fails-left p None xs i x is other none = fails-at p xs i x is none
fails-left p (Some k) xs i x is other none = fails-beside p xs k i x is (eqb-false k i other) none

filter-without : {X : Type 0} (p : X → Bool) (xs : List X) (i : ℕ) → filter p xs ≡ [] → filter p (remove xs i) ≡ []
filter-without p [] zero none = refl
filter-without p [] (suc i) none = refl
filter-without p (x ∷ xs) zero none = (none-passes p x xs none).1
filter-without p (x ∷ xs) (suc i) none = let one = none-passes p x xs none in rw one.0 (filter-without p xs i one.1)

pub none_without : (below : ℕ → ℕ → Bool) (obligations : List Obligation) (event : Event) (index : ℕ) →
    matching below obligations event ≡ [] → matching below (remove obligations index) event ≡ []
none_without below obligations event index none = filter-without _ obligations index none

pub none-but : (below : ℕ → ℕ → Bool) (w : Option ℕ) (obligations : List Obligation) (event : Event) →
    matching below obligations event ≡ [] → matching below (without w obligations) event ≡ []
none-but below None obligations event none = none
none-but below (Some index) obligations event none = none_without below obligations event index none

-- ---- places and what stands there

from_some : {X : Type 0} (o : Option X) (x : X) → option_map Some o ≡ Some (Some x) → o ≡ Some x
from_some (Some y) x e = cc
from_some None x e = cc

-- what stands at the place at i is the item at i
pub stands_at : {X : Type 0} (xs these : List X) (places : List ℕ) (i place : ℕ) (x : X) → StandAt xs places these →
    slice_get places i ≡ Some place → slice_get xs place ≡ Some x → slice_get these i ≡ Some x
stands_at xs these places i place x stand at is =
    from_some (slice_get these i) x (sym (slice_get-map Some these i) ∙ rw (← stand, slice_get-map (slice_get xs) places i, at, is))

-- there are as many places as items
pub as_many : {X : Type 0} (xs these : List X) (places : List ℕ) → StandAt xs places these → length places ≡ length these
as_many xs these places stand = sym (length-map places (slice_get xs)) ∙ ap length stand ∙ length-map these Some

pub below-more : (n : ℕ) (places : List ℕ) (i : ℕ) → All (λ place. place < n) places → i < n → All (λ place. place < n) (places ++ i ∷ [])
below-more n places i below more = All-append (λ place. place < n) places (i ∷ []) below (All-cons (λ place. place < n) i [] more (All-nil (λ place. place < n)))

pub live-at : (relation : Relation) (obligations : List Obligation) (i : ℕ) (o : Obligation) → ArePatternsLive relation obligations →
    slice_get obligations i ≡ Some o → IsPatternLive relation o.pattern
live-at relation obligations i o live is =
    let P : Obligation → Type 0 = λ (x : Obligation). IsPatternLive relation x.pattern in
    subst P (get_or_from_slice_get obligations i o o is) (All-get_or P obligations i o (slice_get_within obligations i o is) live)
