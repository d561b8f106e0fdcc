-- How many elements are contained in one: counted over numbers, or in the list of the elements.
use Rattle.std.proofs.Common.{◌≡◌, ◌≢◌, ◌<◌, ◌+◌, ◌==◌, ◌&&◌, ℕ, zero, suc, Bool, true, false, List, [], ◌∷◌, length, filter, if◌then◌else◌, Some, is_some, refl, sym, ap, ◌∙◌, arith, inl, inr, eq-eqb}
use Rattle.std.proofs.lemmas.Bool.{cases_eq, ne_eqb, false_from_ne_true}
use Rattle.pm_model.specs.State.{element_at}
use Rattle.pm_model.specs.Formed.{AreRising, Each, IsLive}
use Rattle.pm_model.specs.declared.elements.Element.{Element}
use Rattle.pm_laws.proofs.Items.{each-at}
use Rattle.pm_laws.proofs.Numbers.{rising-at, found-at, live-found}
use Rattle.pm_reach.specs.Rows.{count_of}
use Rattle.pm_reach.proofs.Passing.{count-none}

-- where two tests agree below a bound
count-under : (test other : ℕ → Bool) (n : ℕ) → ((k : ℕ) → k < n → test k ≡ other k) → count_of test n ≡ count_of other n
unfolding count_of
count-under test other zero same = refl
count-under test other (suc n) same = rw (same n (omega arith), count-under test other n (λ k l. same k (omega arith))) refl

-- where they agree but at one number, which the other doesn't pass
count-one : (test other : ℕ → Bool) (k n : ℕ) → ((z : ℕ) → z ≢ k → test z ≡ other z) → other k ≡ false → k < n →
    count_of test n ≡ (if test k then 1 else 0) + count_of other n
unfolding count_of
count-one test other k zero same none l = absurd (omega (arith, l))
count-one test other k (suc n) same none l = elim (cases_eq k n) [
  | inl e ↦
      let below = count-under test other n (λ z s. same z (λ at. omega (arith, s, at, e))) in
      let stands : test k ≡ test n = ap test e in
      let lacks : other n ≡ false = ap other (sym e) ∙ none in
      rw (lacks, stands, below) (omega arith)
  | inr ne ↦
      let rest = count-one test other k n same none (omega (arith, l, ne)) in
      rw (same n (λ at. ne (sym at)), rest) (omega arith)
]

-- the number of a first element is no other's
none-behind : (e : Element) (es : List Element) → AreRising (e.number + 1) es → is_some (element_at es e.number) ≡ false
none-behind e es rising = false_from_ne_true (is_some (element_at es e.number)) (λ live.
    let found = live-found es e.number live in
    let held = found-at es e.number found.0 found.1 in
    let later = rising-at (e.number + 1) es found.0 rising held.0 in
    omega (arith, later, held.1))

pub count-listed : (test : ℕ → Bool) (low n : ℕ) (es : List Element) → AreRising low es → ((z : ℕ) → IsLive es z → z < n) →
    count_of (λ z. is_some (element_at es z) && test z) n ≡ length (filter (λ e. test e.number) es)
count-listed test low n [] rising few = count-none (λ z. false) n (λ k l. refl)
count-listed test low n (e ∷ es) rising few =
    let rest = count-listed test (e.number + 1) n es rising.1 (λ z live. few z (behind z live)) in
    let none = none-behind e es rising.1 in
    count-one (λ z. is_some (element_at (e ∷ es) z) && test z) (λ z. is_some (element_at es z) && test z) e.number n
    (λ z ne. rw (ne_eqb e.number z (λ at. ne (sym at))) refl) (rw none refl) (few e.number here)
    ∙ rw (eq-eqb e.number e.number refl, rest) (longer (test e.number) e (filter (λ e. test e.number) es)) where
      here : IsLive (e ∷ es) e.number
      here = rw (eq-eqb e.number e.number refl) refl

      behind : (z : ℕ) → IsLive es z → IsLive (e ∷ es) z
      behind z live = first (e.number == z) where
        first : (b : Bool) → is_some (if b then Some e else element_at es z) ≡ true
        first true = refl
        first false = live

      longer : (b : Bool) (e : Element) (es : List Element) → (if b then 1 else 0) + length es ≡ length (if b then e ∷ es else es)
      longer true e es = omega arith
      longer false e es = omega arith

-- where each element's number is below a bound, that of each live one is
pub each-few : (n : ℕ) (es : List Element) → Each (λ e. e.number < n) es → (x : ℕ) → IsLive es x → x < n
each-few n es each x live =
    let found = live-found es x live in
    let held = found-at es x found.0 found.1 in
    rw (sym held.1) (each-at (λ e. e.number < n) es found.0 each held.0)
