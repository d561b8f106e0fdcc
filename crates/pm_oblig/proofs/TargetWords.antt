-- Words of targets, and one target more.
use Rattle.std.proofs.Common.{◌≡◌, ℕ, zero, suc, ◌+◌, ◌*◌, ◌/◌, ◌%◌, ◌<◌, ◌==◌, ◌&&◌, ◌||◌, Bool, true, false, List, [], ◌∷◌, ◌++◌, slice_get, Option, None, Some, Result, Ok, Err, OnOk, OnErr, bit_or, refl, sym, ap, ◌∙◌, arith, inl, inr}
use Rattle.std.specs.Int.{bit_at}
use Rattle.std.specs.List.{list_any, remove}
use Rattle.std.proofs.lemmas.Bool.{cases_eq, eq-eqb, ne_eqb}
use Rattle.std.proofs.lemmas.List.Folds.{list_any-append}
use Rattle.pm_model.proofs.Bits.{bit_or_has}
use Rattle.pm_oblig.specs.declared.targets.TargetWord.{TargetWord}
use Rattle.pm_oblig.specs.declared.targets.Targets.{Targets}
use Rattle.pm_oblig.specs.Awaited.{is_word_of, in_words, has_target}

module _ {X : Type 0} (p : X → Bool) (b : Bool) (x y : X) (more : p y ≡ (b || p x)) where
  first : (c d : Bool) → (d || ((b || c) || false)) ≡ (b || (c || d))
  first c true = by b c where
    by : (b c : Bool) → true ≡ (b || (c || true))
    by true c = refl
    by false true = refl
    by false false = refl
  first c false = by b c where
    by : (b c : Bool) → ((b || c) || false) ≡ (b || (c || false))
    by true c = refl
    by false c = refl

  passed : (c d : Bool) → (c || (b || d)) ≡ (b || (c || d))
  passed c d = by b c where
    by : (b c : Bool) → (c || (b || d)) ≡ (b || (c || d))
    by true true = refl
    by true false = refl
    by false c = refl

  -- an item goes, and one comes that passes where it did, or b says so
  any-exchanged : (xs : List X) (i : ℕ) → slice_get xs i ≡ Some x → list_any p (remove (xs ++ y ∷ []) i) ≡ (b || list_any p xs)
  any-exchanged [] i stands = cc
  any-exchanged (z ∷ xs) zero stands =
      let same : z ≡ x = cc in
      list_any-append p xs (y ∷ []) ∙ rw (more, same) (first (p x) (list_any p xs))
  any-exchanged (z ∷ xs) (suc i) stands = rw (any-exchanged xs i stands) (passed (p z) (list_any p xs))

-- the word of one number alone
module _ (id : ℕ) (one : TargetWord) (its : one.number ≡ id / 64) (alone : (i : ℕ) → i < 64 → (bit_at one.bits i == 1) ≡ (id == 64 * one.number + i)) where
  placed : (n : ℕ) → one.number ≡ n / 64 → (id == 64 * one.number + n % 64) ≡ (n == id)
  placed n same = elim (cases_eq n id) [
    | inl e ↦ rw (eq-eqb n id e, eq-eqb id (64 * one.number + n % 64) (omega arith)) refl
    | inr d ↦ rw (ne_eqb n id d, ne_eqb id (64 * one.number + n % 64) (λ e. d (omega arith))) refl
  ]

  only : (n : ℕ) → (one.number == n / 64 && bit_at one.bits (n % 64) == 1) ≡ (n == id)
  only n = elim (cases_eq one.number (n / 64)) [
    | inl e ↦ rw (eq-eqb one.number (n / 64) e, alone (n % 64) (omega arith)) (placed n e)
    | inr d ↦ rw (ne_eqb one.number (n / 64) d, ne_eqb n id (λ e. d (its ∙ ap (λ m. m / 64) (sym e)))) refl
  ]

  turned : (b c : Bool) → (b || (c || false)) ≡ (c || b)
  turned true true = refl
  turned true false = refl
  turned false true = refl
  turned false false = refl

  -- behind the others
  pub put_behind : (words : List TargetWord) (n : ℕ) → in_words (words ++ one ∷ []) n ≡ (n == id || in_words words n)
  put_behind words n =
      list_any-append (λ (w : TargetWord). is_word_of n w && bit_at w.bits (n % 64) == 1) words (one ∷ [])
      ∙ ap (λ b. in_words words n || (b || false)) (only n)
      ∙ turned (in_words words n) (n == id)

  parted : (t b o : Bool) → (t && (b || o)) ≡ ((t && o) || (t && b))
  parted true true true = refl
  parted true true false = refl
  parted true false true = refl
  parted true false false = refl
  parted false b o = refl

  -- joined to another of its number
  module _ (word : TargetWord) (same : word.number ≡ id / 64) where
    joined : (n : ℕ) → (word.number == n / 64 && bit_at (bit_or word.bits one.bits) (n % 64) == 1) ≡ (n == id || (word.number == n / 64 && bit_at word.bits (n % 64) == 1))
    joined n =
        ap (λ b. word.number == n / 64 && b) (bit_or_has word.bits one.bits (n % 64))
        ∙ parted (word.number == n / 64) (bit_at word.bits (n % 64) == 1) (bit_at one.bits (n % 64) == 1)
        ∙ ap (λ b. b || (word.number == n / 64 && bit_at word.bits (n % 64) == 1))
        (ap (λ k. k == n / 64 && bit_at one.bits (n % 64) == 1) (same ∙ sym its) ∙ only n)

    pub put_into : (words : List TargetWord) (i : ℕ) → slice_get words i ≡ Some word → (n : ℕ) →
        in_words (remove (words ++ record { number = word.number; bits = bit_or word.bits one.bits } ∷ []) i) n ≡ (n == id || in_words words n)
    put_into words i stands n =
        any-exchanged (λ (w : TargetWord). is_word_of n w && bit_at w.bits (n % 64) == 1) (n == id)
        word (record { number = word.number; bits = bit_or word.bits one.bits }) (joined n) words i stands

-- ---- what is told

pub has-anywhere : (t : Targets) (target : Option ℕ) → has_target t target ≡ true → has_target (record t { anywhere = true }) target ≡ true
has-anywhere t None had = refl
has-anywhere t (Some n) had = had

either : (b : Bool) → (b || true) ≡ true
either true = refl
either false = refl

module _ {A E : Type 0} (t : Targets) (words : List TargetWord) (id : ℕ) where
  pub has-inserted : (r : Result A E) → OnOk r ((n : ℕ) → in_words words n ≡ (n == id || in_words t.words n)) → OnErr r (words ≡ t.words) →
      (target : Option ℕ) → has_target t target ≡ true → has_target (record t { words = words }) target ≡ true
  has-inserted r ok err None had = had
  has-inserted (Ok x) ok err (Some n) had = ok n ∙ rw had (either (n == id))
  has-inserted (Err e) ok err (Some n) had = rw err had

pub tells-inserted : (words old : List TargetWord) (id : ℕ) → ((n : ℕ) → in_words words n ≡ (n == id || in_words old n)) → in_words words id ≡ true
tells-inserted words old id made = made id ∙ rw (eq-eqb id id refl) refl
