-- Where a number stands in a list of rising numbers.
use Rattle.std.proofs.Common.{◌≡◌, ℕ, zero, suc, ◌+◌, ◌≤◌, ◌<◌, false, nat_lt, List, [], ◌∷◌, length, Some, drop, slice_get, refl, subst, arith, ne_eqb}
use Rattle.std.proofs.lemmas.Bool.{cond_both, lt-ltb, le-ltb, ltb-true}
use Rattle.pm_model.proofs.Walks.{drop-item}
use Rattle.pm_model.specs.Formed.{Each}
use Rattle.pm_laws.proofs.Items.{each-to}
use Rattle.pm_affect.specs.Lists.{Rise, is_among}
use Rattle.pm_affect.specs.Puts.{place}

pub place-within : (n : ℕ) (ns : List ℕ) → place n ns ≤ length ns
place-within n [] = omega arith
place-within n (m ∷ ms) = let rest = place-within n ms in
    cond_both (nat_lt m n) (suc (place n ms)) 0 (λ k. k ≤ length (m ∷ ms)) (λ is. omega (arith, rest)) (λ is. omega arith)

-- all that stand before a number of the list are lower
pub rise-at : (low i m : ℕ) (ns : List ℕ) → Rise low ns → slice_get ns i ≡ Some m → low + i ≤ m
rise-at low i m [] h is = absurd (cc)
rise-at low zero m (k ∷ ks) h is = let same : k ≡ m = cc in omega (arith, same, h.0)
rise-at low (suc i) m (k ∷ ks) h is = let rest = rise-at (k + 1) i m ks h.1 is in omega (arith, rest, h.0)

-- behind a lower one
pub place-above : (low n i m : ℕ) (ns : List ℕ) → Rise low ns → slice_get ns i ≡ Some m → m < n → i + 1 ≤ place n ns
place-above low n i m [] h is lower = absurd (cc)
place-above low n zero m (k ∷ ks) h is lower = let same : k ≡ m = cc in rw (lt-ltb k n (omega (arith, same, lower))) (omega arith)
place-above low n (suc i) m (k ∷ ks) h is lower =
    let rest = place-above (k + 1) n i m ks h.1 is lower in
    let above = rise-at (k + 1) i m ks h.1 is in
    rw (lt-ltb k n (omega (arith, above, lower))) (omega (arith, rest))

-- not behind one that isn't lower
pub place-below : (n i m : ℕ) (ns : List ℕ) → slice_get ns i ≡ Some m → n ≤ m → place n ns ≤ i
place-below n i m [] is above = absurd (cc)
place-below n zero m (k ∷ ks) is above = let same : k ≡ m = cc in rw (le-ltb k n (omega (arith, same, above))) (omega arith)
place-below n (suc i) m (k ∷ ks) is above = let rest = place-below n i m ks is above in
    cond_both (nat_lt k n) (suc (place n ks)) 0 (λ j. j ≤ suc i) (λ lower. omega (arith, rest)) (λ other. omega arith)

-- what rises above n doesn't have it
pub rise-apart : (low n : ℕ) (ns : List ℕ) → Rise low ns → n < low → is_among ns n ≡ false
rise-apart low n [] h below = refl
rise-apart low n (k ∷ ns) h below =
    rw (ne_eqb k n (λ same. omega (arith, same, h.0, below)), rise-apart (k + 1) n ns h.1 (omega (arith, h.0, below))) refl

pub rise-lower : (high low : ℕ) (ns : List ℕ) → low ≤ high → Rise high ns → Rise low ns
rise-lower high low [] less h = tt
rise-lower high low (n ∷ ns) less h = (omega (arith, less, h.0), h.1)

-- ---- numbers that are met one after another

-- higher numbers don't stand before
place-rises : (u v : ℕ) (ns : List ℕ) → u ≤ v → place u ns ≤ place v ns
place-rises u v [] h = omega arith
place-rises u v (n ∷ ns) h = let rest = place-rises u v ns h in
    cond_both (nat_lt n u) (suc (place u ns)) 0 (λ k. k ≤ place v (n ∷ ns))
    (λ is. let below = ltb-true n u is in rw (lt-ltb n v (omega (arith, below, h))) (omega (arith, rest)))
    (λ is. omega arith)

rise-each : (low m : ℕ) (ns : List ℕ) → Rise low ns → m ≤ low → Each (λ v. m ≤ v) ns
rise-each low m [] h less = tt
rise-each low m (n ∷ ns) h less = (omega (arith, h.0, less), rise-each (n + 1) m ns h.1 (omega (arith, h.0, less)))

rise-drop : (low i : ℕ) (ns : List ℕ) → Rise low ns → Rise 0 (drop i ns)
rise-drop low i [] h = of i where
  of : (i : ℕ) → Rise 0 (drop i [])
  of zero = tt
  of (suc i) = tt
rise-drop low zero (n ∷ ns) h = rise-lower low 0 (n ∷ ns) (omega arith) h
rise-drop low (suc i) (n ∷ ns) h = rise-drop (n + 1) i ns h.1

pub places-later : (ns us : List ℕ) (i u : ℕ) → Rise 0 us → slice_get us i ≡ Some u → Each (λ v. place u ns ≤ place v ns) (drop (i + 1) us)
places-later ns us i u h at =
    let both : Rise 0 (u ∷ drop (i + 1) us) = subst (Rise 0) (drop-item us i u at) (rise-drop 0 i us h) in
    each-to (λ v. u ≤ v) (λ v. place u ns ≤ place v ns) (λ v less. place-rises u v ns less) (drop (i + 1) us)
    (rise-each (u + 1) u (drop (i + 1) us) both.1 (omega arith))

pub first-later : (P : ℕ → Type 0) (us : List ℕ) (i u : ℕ) → slice_get us i ≡ Some u → Each P (drop i us) → P u
first-later P us i u at h = let both : Each P (u ∷ drop (i + 1) us) = subst (Each P) (drop-item us i u at) h in both.0
