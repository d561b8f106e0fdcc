-- The pairs that are judged are those that lie inside and in a scope, each once.
use Rattle.std.proofs.Common.{◌≡◌, ◌==◌, ◌+◌, ℕ, Bool, true, false, List, [], ◌∷◌, ◌++◌, map, refl, sym, ap, ◌∙◌, arith, ◌&&◌, ◌||◌, Contains, ◌↔◌}
use Rattle.std.specs.List.{list_any}
use Rattle.std.proofs.lemmas.Bool.{and_parts, and_from}
use Rattle.std.proofs.lemmas.List.Folds.{list_any-append}
use Rattle.std.proofs.lemmas.Map.Views.{any-filter_same}
use Rattle.pm_model.specs.Effect.{is_pair}
use Rattle.pm_model.specs.Formed.{StandOnce}
use Rattle.pm_laws.proofs.Pairs.{once-filter, assigned-is, assigned-at, pair-is}
use Rattle.pm_affect.specs.Judged.{pairs_of, judged}
use Rattle.pm_affect.specs.Lists.{Rise, is_among}
use Rattle.pm_affect.proofs.Places.{rise-apart}

-- a pair is among those of users and elements where they are
row-has : (v m u : ℕ) (es : List ℕ) → list_any (is_pair v m) (map (λ e. (u, e)) es) ≡ (u == v && is_among es m)
row-has v m u [] = go (u == v) where
  go : (b : Bool) → false ≡ (b && false)
  go true = refl
  go false = refl
row-has v m u (e ∷ es) = rw (row-has v m u es) (go (u == v) (e == m) (is_among es m)) where
  go : (a b c : Bool) → ((a && b) || (a && c)) ≡ (a && (b || c))
  go true b c = refl
  go false b c = refl

pairs-have : (v m : ℕ) (us es : List ℕ) → list_any (is_pair v m) (pairs_of us es) ≡ (is_among us v && is_among es m)
pairs-have v m [] es = refl
pairs-have v m (u ∷ us) es = rw (list_any-append (is_pair v m) (map (λ e. (u, e)) es) (pairs_of us es), row-has v m u es, pairs-have v m us es)
    (go (u == v) (is_among us v) (is_among es m)) where
      go : (a b c : Bool) → ((a && c) || (b && c)) ≡ ((a || b) && c)
      go true true true = refl
      go true true false = refl
      go true false true = refl
      go true false false = refl
      go false b c = refl

and_right : (a : Bool) → (a && false) ≡ false
and_right true = refl
and_right false = refl

once-row : (u low : ℕ) (es : List ℕ) (rest : List (ℕ × ℕ)) → Rise low es → ((e : ℕ) → list_any (is_pair u e) rest ≡ false) → StandOnce rest →
    StandOnce (map (λ e. (u, e)) es ++ rest)
once-row u low [] rest h apart once = once
once-row u low (e ∷ es) rest h apart once = (others, once-row u (e + 1) es rest h.1 apart once) where
  others : list_any (is_pair u e) (map (λ e. (u, e)) es ++ rest) ≡ false
  others = list_any-append (is_pair u e) (map (λ e. (u, e)) es) rest
      ∙ rw (row-has u e u es, rise-apart (e + 1) e es h.1 (omega arith), and_right (u == u), apart e) refl

pairs-once : (low : ℕ) (us es : List ℕ) → Rise low us → Rise 0 es → StandOnce (pairs_of us es)
pairs-once low [] es h rise = tt
pairs-once low (u ∷ us) es h rise =
    once-row u 0 es (pairs_of us es) rise (λ e. pairs-have u e us es ∙ rw (rise-apart (u + 1) u us h.1 (omega arith)) refl)
    (pairs-once (u + 1) us es h.1 rise)

module _ (inside scope : ℕ → ℕ → Bool) (users elements : List ℕ) where
  -- a pair is among those that are judged where it lies inside and in a scope
  pub judged-has : (v m : ℕ) →
      list_any (is_pair v m) (judged inside scope users elements) ≡ ((inside v m && scope v m) && (is_among users v && is_among elements m))
  judged-has v m =
      any-filter_same (is_pair v m) (λ (p : ℕ × ℕ). inside p.0 p.1 && scope p.0 p.1) (inside v m && scope v m)
      (λ p is. ap (λ (p : ℕ × ℕ). inside p.0 p.1 && scope p.0 p.1) (pair-is v m p is)) (pairs_of users elements)
      ∙ ap (λ b. (inside v m && scope v m) && b) (pairs-have v m users elements)

  pub judged_once : Rise 0 users → Rise 0 elements → StandOnce (judged inside scope users elements)
  judged_once first second = once-filter (λ p. inside p.0 p.1 && scope p.0 p.1) (pairs_of users elements) (pairs-once 0 users elements first second)

  pub judged_exactly : (u e : ℕ) → Contains (judged inside scope users elements) (u, e)
      ↔ ((is_among users u ≡ true) × (is_among elements e ≡ true) × (inside u e ≡ true) × (scope u e ≡ true))
  judged_exactly u e = (
    λ c.
        let both = and_parts (inside u e && scope u e) (is_among users u && is_among elements e)
        (sym (judged-has u e) ∙ assigned-at (judged inside scope users elements) u e c) in
        let first = and_parts (inside u e) (scope u e) both.0 in
        let second = and_parts (is_among users u) (is_among elements e) both.1 in (second.0, second.1, first.0, first.1),
    λ h. assigned-is (judged inside scope users elements) u e
        (judged-has u e
        ∙ and_from (inside u e && scope u e) (is_among users u && is_among elements e)
        (and_from (inside u e) (scope u e) h.2 h.3) (and_from (is_among users u) (is_among elements e) h.0 h.1)),
  )
