-- Lists of which no pair in scope lies in the region: where `touches` says no, and that they are right already.
use Rattle.std.proofs.Common.{◌≡◌, ℕ, Bool, true, false, ◌==◌, ◌&&◌, ◌||◌, List, [], ◌∷◌, length, map, None, if◌then◌else◌, refl, sym, ap, ◌∙◌, eq-eqb, Contains}
use Rattle.std.specs.List.{list_any}
use Rattle.std.proofs.lemmas.Bool.{and_parts, false_from_ne_true, false≢true, or_left, or_right}
use Rattle.pm_model.specs.Decision.{applies_by, range_by}
use Rattle.pm_laws.proofs.Items.{any-map, contains-first, contains-rest, each-at}
use Rattle.pm_affect.specs.Affected.{is_in}
use Rattle.pm_affect.specs.Judged.{in_scope}
use Rattle.pm_affect.specs.Lists.{AreKept, IsInOrder, Listed, Lists, Rise, is_among, subjects}
use Rattle.pm_affect.specs.Right.{AreCapsRight, AreEntriesRight, AreRight, IsRightOutside, caps_anew, entries_anew, is_one}
use Rattle.pm_affect.specs.Rows.{has_near, is_near, is_near_row, is_nothing, is_wide}
use Rattle.pm_affect.specs.declared.region.Region.{Region}
use Rattle.pm_affect.specs.declared.region.Region.TheVariants.{Nothing, One, Under, Between, Barred}
use Rattle.pm_affect.specs.declared.region.Row.TheVariants.{Empty, Near}
use Rattle.pm_affect.proofs.Ones.{one-caps, one-entries}
use Rattle.pm_affect.proofs.Order.{listed}
use Rattle.pm_affect.proofs.Repaired.{list-done, same-listed}
use Rattle.pm_affect.proofs.Rows.{in-nothing, no-lists, none-near}

-- ---- where `touches` says no

-- no pair of it is in the scope of a list
abbrev pub AreUntouched : (ℕ → ℕ → Bool) → Region → Lists → Type 0
AreUntouched below region L = (u e : ℕ) → in_scope L u e ≡ true → is_in below region u e ≡ false

near-by : (a b : Bool) → (a && b) ≡ (is_near_row (if a then Near else Empty) && b)
near-by true b = refl
near-by false b = refl

module _ (below : ℕ → ℕ → Bool) where
  -- of a region that isn't wide, those of a user that has a row and an element that is near
  both-near : (region : Region) (u e : ℕ) → is_wide region ≡ false → is_in below region u e ≡ (has_near below region u && is_near below region e)
  both-near Nothing u e wide = refl
  both-near (One x) u e wide = absurd (cc)
  both-near (Under x) u e wide = absurd (cc)
  both-near (Between ua at) u e wide = near-by (below u ua) (below e at)
  both-near (Barred p) u e wide = near-by (applies_by below u None p.subject) (range_by below p.mode p.inc p.exc e)

  pub untouched-nothing : (region : Region) (L : Lists) → is_nothing region ≡ true → AreUntouched below region L
  untouched-nothing region L is u e scope = in-nothing below region u e is

  pub untouched-empty : (region : Region) (L : Lists) → (length L.caps == 0 && length L.entries == 0) ≡ true → AreUntouched below region L
  untouched-empty region L is u e scope =
      let none = no-lists L is in
      let no : in_scope L u e ≡ false = rw (none.0, none.1) refl in absurd (false≢true (sym no ∙ scope))

  pub untouched-far : (region : Region) (L : Lists) → is_wide region ≡ false → list_any (has_near below region) (subjects L.caps) ≡ false →
      list_any (is_near below region) (subjects L.entries) ≡ false → AreUntouched below region L
  untouched-far region L wide users elements u e scope =
      false_from_ne_true (is_in below region u e) (λ is.
      let both = and_parts (has_near below region u) (is_near below region e) (sym (both-near region u e wide) ∙ is) in
      of (is_among (subjects L.caps) u) refl scope both.0 both.1) where
        of : (b : Bool) → is_among (subjects L.caps) u ≡ b → (is_among (subjects L.caps) u || is_among (subjects L.entries) e) ≡ true →
            has_near below region u ≡ true → is_near below region e ≡ true → ⊥
        of true caps scope user element = none-near (has_near below region) u (subjects L.caps) users caps user
        of false caps scope user element = none-near (is_near below region) e (subjects L.entries) elements (rw caps at scope) element

-- ---- such lists are right already

list-right : (inside gone : ℕ → Bool) (rights : ℕ → ℕ) (ns : List ℕ) (k : Listed) → IsRightOutside inside gone rights ns k.pairs →
    ((n : ℕ) → gone n ≡ true → inside n ≡ true) → ((n : ℕ) → inside n ≡ false) → Rise 0 ns → IsInOrder 0 k.pairs → k.pairs ≡ listed rights ns
list-right inside gone rights ns k h within out rise order =
    list-done inside gone rights ns k.pairs k.pairs h within rise order (λ n.
    let left : gone n ≡ false = false_from_ne_true (gone n) (λ is. false≢true (sym (out n) ∙ within n is)) in rw (out n, left) refl)

all-same : (f : Listed → Listed) (all : List Listed) → ((k : Listed) → Contains all k → k ≡ f k) → (some : List Listed) →
    ((k : Listed) → Contains some k → Contains all k) → some ≡ map f some
all-same f all same [] within = refl
all-same f all same (k ∷ some) within =
    ap (λ (l : Listed). l ∷ some) (same k (within k (contains-first k some)))
    ∙ ap (λ (ks : List Listed). f k ∷ ks) (all-same f all same some (λ l c. within l (contains-rest k l some c)))

module _ (below : ℕ → ℕ → Bool) (region : Region) (rights : ℕ → ℕ → ℕ) (elements users : List ℕ) (L : Lists) where
  pub caps_untouched : Rise 0 elements → AreKept L → AreRight below region rights elements users L → AreUntouched below region L →
      L.caps ≡ map (caps_anew rights elements) L.caps
  caps_untouched rise kept h far = all-same (caps_anew rights elements) L.caps (λ k c.
      let right = each-at (AreCapsRight below region rights elements users) L.caps k h.caps c in
      let there : is_among (subjects L.caps) k.subject ≡ true = any-map (λ m. m == k.subject) (λ (k : Listed). k.subject) L.caps k c (eq-eqb k.subject k.subject refl) in
      same-listed k (caps_anew rights elements k) refl refl
      (list-right (λ e. is_in below region k.subject e) (is_one region) (λ e. rights k.subject e) elements k right.1 (λ n. one-caps below region k.subject n)
      (λ n. far k.subject n (or_left (is_among (subjects L.caps) k.subject) (is_among (subjects L.entries) n) there)) rise
      (each-at (λ (k : Listed). IsInOrder 0 k.pairs) L.caps k kept.caps.order c))) L.caps (λ k c. c)

  pub entries_untouched : Rise 0 users → AreKept L → AreRight below region rights elements users L → AreUntouched below region L →
      L.entries ≡ map (entries_anew rights users) L.entries
  entries_untouched rise kept h far = all-same (entries_anew rights users) L.entries (λ k c.
      let right = each-at (AreEntriesRight below region rights elements users) L.entries k h.entries c in
      let there : is_among (subjects L.entries) k.subject ≡ true = any-map (λ m. m == k.subject) (λ (k : Listed). k.subject) L.entries k c (eq-eqb k.subject k.subject refl) in
      same-listed k (entries_anew rights users k) refl refl
      (list-right (λ u. is_in below region u k.subject) (is_one region) (λ u. rights u k.subject) users k right.1 (λ n. one-entries below region n k.subject)
      (λ n. far n k.subject (or_right (is_among (subjects L.caps) n) (is_among (subjects L.entries) k.subject) there)) rise
      (each-at (λ (k : Listed). IsInOrder 0 k.pairs) L.entries k kept.entries.order c))) L.entries (λ k c. c)
