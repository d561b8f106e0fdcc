-- The classes of the elements with a new one at its place.
use Rattle.std.proofs.Common.{◌≡◌, ℕ, ◌+◌, ◌<◌, List, [], ◌∷◌, nat_lt, Bool, true, false, refl, sym, ap, cond, arith}
use Rattle.std.proofs.lemmas.Bool.{cond_both, lt-ltb, ltb-true}
use Rattle.pm_model.specs.State.{is_class, classes_in}
use Rattle.pm_model.specs.Effect.{placed}
use Rattle.pm_model.specs.Formed.{AreRising}
use Rattle.pm_model.specs.declared.elements.Element.{Element}
use Rattle.pm_model.specs.declared.elements.Kind.TheVariants.{Ua, Pc}
use Rattle.pm_state.specs.Classes.{placed_number, with_class}

-- the classes of one element more
abbrev with_first : Element → List ℕ → List ℕ
with_first e ms = cond (is_class e) (e.number ∷ ms) ms

classes-first : (e : Element) (es : List Element) → classes_in (e ∷ es) ≡ with_first e (classes_in es)
classes-first e es = of (is_class e) refl where
  of : (t : Bool) → is_class e ≡ t → classes_in (e ∷ es) ≡ with_first e (classes_in es)
  of true is = rw is refl
  of false is = rw is refl

-- a number that is lower than all stands first
lower-first : (n k : ℕ) (es : List Element) → AreRising k es → n < k → placed_number n (classes_in es) ≡ n ∷ classes_in es
lower-first n k [] h below = refl
lower-first n k (e ∷ es) h below = of (is_class e) refl (lower-first n (e.number + 1) es h.1 (omega (arith, h.0, below))) where
  of : (t : Bool) → is_class e ≡ t → placed_number n (classes_in es) ≡ n ∷ classes_in es →
      placed_number n (classes_in (e ∷ es)) ≡ n ∷ classes_in (e ∷ es)
  of true is rest = rw (is, lt-ltb n e.number (omega (arith, h.0, below))) refl
  of false is rest = rw is rest

-- an element that is no class changes nothing
placed-other : (x : Element) (es : List Element) → is_class x ≡ false → classes_in (placed x es) ≡ classes_in es
placed-other x [] other = rw other refl
placed-other x (e ∷ es) other =
    let rest = placed-other x es other in
    cond_both (nat_lt x.number e.number) (x ∷ e ∷ es) (e ∷ placed x es) (λ l. classes_in l ≡ classes_in (e ∷ es))
    (λ is. rw other refl)
    (λ is. rw (classes-first e (placed x es), rest, classes-first e es) refl)

placed-class : (x : Element) (es : List Element) (k : ℕ) → AreRising k es → is_class x ≡ true →
    classes_in (placed x es) ≡ placed_number x.number (classes_in es)
placed-class x [] k h is-class = rw is-class refl
placed-class x (e ∷ es) k h is-class = of (nat_lt x.number e.number) refl (placed-class x es (e.number + 1) h.1 is-class) where
  behind : nat_lt x.number e.number ≡ false → (t : Bool) → is_class e ≡ t →
      classes_in (placed x es) ≡ placed_number x.number (classes_in es) →
      classes_in (e ∷ placed x es) ≡ placed_number x.number (classes_in (e ∷ es))
  behind after true is rest = rw (is, after) (ap (λ l. e.number ∷ l) rest)
  behind after false is rest = rw is rest

  of : (t : Bool) → nat_lt x.number e.number ≡ t → classes_in (placed x es) ≡ placed_number x.number (classes_in es) →
      classes_in (placed x (e ∷ es)) ≡ placed_number x.number (classes_in (e ∷ es))
  of true before rest =
      rw (before, is-class) (sym (lower-first x.number e.number (e ∷ es) (omega arith, h.1) (ltb-true x.number e.number before)))
  of false after rest = rw after (behind after (is_class e) refl rest)

pub classes-placed : (x : Element) (es : List Element) (n : ℕ) → AreRising n es →
    classes_in (placed x es) ≡ with_class x.kind x.number (classes_in es)
classes-placed x es n h = of (is_class x) refl where
  of : (t : Bool) → is_class x ≡ t → classes_in (placed x es) ≡ with_class x.kind x.number (classes_in es)
  of true is-class = rw is-class (placed-class x es n h is-class)
  of false other = rw other (placed-other x es other)

-- a class between two, and a user attribute
examples : (with_class Pc 3 (0 ∷ 5 ∷ []) ≡ 0 ∷ 3 ∷ 5 ∷ []) × (with_class Ua 3 (0 ∷ 5 ∷ []) ≡ 0 ∷ 5 ∷ [])
examples = (refl, refl)
