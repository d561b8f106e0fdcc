-- Whether some obligation matches: what operations and targets tell of it, and a walk over the obligations.
use Rattle.std.proofs.Common.{◌≡◌, ℕ, ◌+◌, ◌*◌, ◌/◌, ◌%◌, ◌<◌, ◌==◌, ◌&&◌, ◌||◌, Bool, true, false, cond, List, [], ◌∷◌, length, take, filter, nat_lt, get_or, Option, None, Some, bit_and, min, bytes_eq, refl, sym, ap, ◌∙◌, arith, inl, inr}
use Rattle.std.specs.Int.{bit_at}
use Rattle.std.specs.List.{list_any}
use Rattle.std.proofs.lemmas.Bool.{eqb-true, ne_eqb, and_parts, or_cases}
use Rattle.std.proofs.lemmas.List.Elements.{All-head, All-tail}
use Rattle.std.proofs.lemmas.List.Folds.{list_any_at, list_any_more}
use Rattle.std.proofs.lemmas.Nat.Bits.{bit_at_and, bit_at-zero}
use Rattle.pm_model.specs.Obligations.{is_in_given, matching}
use Rattle.pm_model.specs.declared.obligations.Obligation.{Obligation}
use Rattle.pm_model.specs.declared.events.Event.{Event}
use Rattle.pm_oblig.specs.Awaited.{is_word_of, in_words, has_target, may_have, KnowsTargets}
use Rattle.pm_oblig.specs.declared.targets.TargetWord.{TargetWord}
use Rattle.pm_oblig.specs.declared.targets.Targets.{Targets}
use Rattle.pm_runner.specs.Standing.{is_match}

-- ---- a walk: up to an item, and with it

module _ {X : Type 0} (p : X → Bool) (xs : List X) (i : ℕ) (x : X) (within : i < length xs) (is : x ≡ get_or xs i x) where
  pub one-passes : true ≡ p x → true ≡ list_any p xs
  one-passes passes = sym (list_any_at p xs i x within (ap p (sym is) ∙ sym passes))

  pub none-yet : list_any p (take i xs) ≡ false → false ≡ p x → list_any p (take (i + 1) xs) ≡ false
  none-yet none fails =
      list_any_more p xs i x within ∙ ap (λ b. b || p (get_or xs i x)) none ∙ ap p (sym is) ∙ sym fails

-- some are left of those that pass, where some passes
pub any-left : {X : Type 0} (p : X → Bool) (xs : List X) → list_any p xs ≡ nat_lt 0 (length (filter p xs))
any-left p [] = refl
any-left p (x ∷ xs) = by (p x) (any-left p xs) where
  by : (b : Bool) → list_any p xs ≡ nat_lt 0 (length (filter p xs)) →
      (b || list_any p xs) ≡ nat_lt 0 (length (cond b (x ∷ filter p xs) (filter p xs)))
  by true rest = grind arith
  by false rest = rest

-- ---- words whose elements the target is not in

module _ (below : ℕ → Bool) (w : TargetWord) (above : ℕ) (apart : bit_and w.bits above ≡ 0)
    (tells : (j : ℕ) → j < 64 → (bit_at above j == 1) ≡ below (64 * w.number + j)) where
  no-bit : (j : ℕ) → bit_at w.bits j ≡ 1 → bit_at above j ≡ 0
  no-bit j set =
      let both : min (bit_at w.bits j) (bit_at above j) ≡ 0 = sym (bit_at_and w.bits above j) ∙ ap (λ x. bit_at x j) apart ∙ bit_at-zero j in
      omega (arith, both, set)

  outside-word : (n : ℕ) → (is_word_of n w && bit_at w.bits (n % 64) == 1) ≡ true → below n ≡ false
  outside-word n has =
      let parts = and_parts (w.number == n / 64) (bit_at w.bits (n % 64) == 1) has in
      let number : w.number ≡ n / 64 = eqb-true w.number (n / 64) parts.0 in
      let clear : bit_at above (n % 64) ≡ 0 = no-bit (n % 64) (eqb-true (bit_at w.bits (n % 64)) 1 parts.1) in
      let whole : 64 * w.number + n % 64 ≡ n = omega arith in
      ap below (sym whole) ∙ sym (tells (n % 64) (omega arith)) ∙ ne_eqb (bit_at above (n % 64)) 1 (omega (arith, clear))

  pub outside-more : (words : List TargetWord) (i : ℕ) (d : TargetWord) → i < length words → w ≡ get_or words i d →
      ((n : ℕ) → in_words (take i words) n ≡ true → below n ≡ false) → (n : ℕ) → in_words (take (i + 1) words) n ≡ true → below n ≡ false
  outside-more words i d within is before n has =
      let has_it : TargetWord → Bool = λ (v : TargetWord). is_word_of n v && bit_at v.bits (n % 64) == 1 in
      elim (or_cases (in_words (take i words) n) (has_it (get_or words i d)) (sym (list_any_more has_it words i d within) ∙ has)) [
        | inl earlier ↦ before n earlier
        | inr here ↦ outside-word n (ap has_it is ∙ here)
      ]

pub outside-targets : (t : Targets) (below : ℕ → ℕ → Bool) (target : ℕ) → t.anywhere ≡ false →
    ((n : ℕ) → in_words t.words n ≡ true → below target n ≡ false) → (given : Option ℕ) → has_target t given ≡ true → is_in_given below given target ≡ false
outside-targets t below target bound outside None has = cc
outside-targets t below target bound outside (Some n) has = outside n has

-- ---- where the event's target is in none that is given, none matches

neither : (b : Bool) → (b && false) ≡ false
neither true = refl
neither false = refl

module _ (below : ℕ → ℕ → Bool) (event : Event) (known : Option Targets)
    (outside : (given : Option ℕ) → may_have known given ≡ true → is_in_given below given event.target ≡ false) where
  fails : (o : Obligation) → (bytes_eq o.pattern.on event.operation ≡ true → may_have known o.pattern.target ≡ true) → is_match below event o ≡ false
  fails o waits = by (bytes_eq o.pattern.on event.operation) refl where
    by : (b : Bool) → bytes_eq o.pattern.on event.operation ≡ b → is_match below event o ≡ false
    by true same = ap (λ b. (bytes_eq o.pattern.on event.operation && is_in_given below o.pattern.user event.user) && b) (outside o.pattern.target (waits same)) ∙ neither _
    by false other = rw other refl

  pub none-match : (obligations : List Obligation) → KnowsTargets obligations event.operation known → matching below obligations event ≡ []
  none-match [] knows = refl
  none-match (o ∷ obligations) knows =
      let P = λ (x : Obligation). bytes_eq x.pattern.on event.operation ≡ true → may_have known x.pattern.target ≡ true in
      let fails_it = fails o (All-head P o obligations knows) in
      let rest = none-match obligations (All-tail P o obligations knows) in
      rw fails_it rest
