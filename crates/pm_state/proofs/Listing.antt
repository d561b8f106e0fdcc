-- The least live number from a number on, and how many are live.
use Rattle.std.proofs.Common.{◌≡◌, ◌<◌, ◌≤◌, ℕ, Bool, true, false, List, [], ◌∷◌, length, filter, leb, Option, Some, None, option_map, refl, arith, inl, inr}
use Rattle.std.specs.List.{find}
use Rattle.std.proofs.lemmas.Bool.{cases_eq, leb-true, leb-false, ne_eqb}
use Rattle.std.proofs.lemmas.List.{length-map}
use Rattle.pm_model.specs.Effect.{max_elements}
use Rattle.pm_model.specs.Formed.{IsLive, IsWellFormed}
use Rattle.pm_model.specs.Reviews.{is_user, numbers_in, users_in}
use Rattle.pm_model.specs.State.{Graph}
use Rattle.pm_model.specs.declared.elements.Element.{Element}
use Rattle.pm_elements.specs.Checks.{is_at_least, least_from}
use Rattle.pm_laws.proofs.Items.{find-found, length-filter}

least-found : (es : List Element) (n k : ℕ) → Some k ≡ least_from es n → (e : Element) × (find (is_at_least n) es ≡ Some e) × (e.number ≡ k)
least-found es n k h = of (find (is_at_least n) es) refl h where
  of : (o : Option Element) → find (is_at_least n) es ≡ o → Some k ≡ option_map (λ (e : Element). e.number) o →
      (e : Element) × (find (is_at_least n) es ≡ Some e) × (e.number ≡ k)
  of (Some e) is h = (e, is, cc)
  of None is h = absurd (cc)

least-none : (es : List Element) (n : ℕ) → None ≡ least_from es n → find (is_at_least n) es ≡ None
least-none es n h = of (find (is_at_least n) es) refl h where
  of : (o : Option Element) → find (is_at_least n) es ≡ o → None ≡ option_map (λ (e : Element). e.number) o → find (is_at_least n) es ≡ None
  of (Some e) is h = absurd (cc)
  of None is h = is

pub least-above : (es : List Element) (n k : ℕ) → Some k ≡ least_from es n → n ≤ k
least-above es n k h =
    let p = least-found es n k h in
    let low = leb-true n p.0.number (find-found (is_at_least n) es p.0 p.1).1 in
    omega (arith, low, p.2)

past : (n x : ℕ) (es : List Element) → find (is_at_least n) es ≡ None → IsLive es x → x < n
past n x [] none live = absurd (cc)
past n x (e ∷ es) none live = of (leb n e.number) refl (past n x es) where
  of : (b : Bool) → leb n e.number ≡ b → (find (is_at_least n) es ≡ None → IsLive es x → x < n) → x < n
  of true here rest = absurd (let found : Some e ≡ None = rw here at none in cc)
  of false here rest = elim (cases_eq e.number x) [
    | inl is ↦ let low = leb-false n e.number here in omega (arith, low, is)
    | inr apart ↦ rest (rw here at none) (rw (ne_eqb e.number x apart) at live)
  ]

-- where no element has a number from n on, each that is live is below
pub least-past : (es : List Element) (n : ℕ) → None ≡ least_from es n → (x : ℕ) → IsLive es x → x < n
least-past es n h x live = past n x es (least-none es n h) live

-- ---- there are few

pub few-elements : (G : Graph) → IsWellFormed G → length (numbers_in G.elements) ≤ max_elements
few-elements G f = omega (arith, f.elements.few, length-map G.elements (λ (e : Element). e.number))

pub few-users : (G : Graph) → IsWellFormed G → length (users_in G.elements) ≤ max_elements
few-users G f =
    omega (arith, f.elements.few, length-map (filter is_user G.elements) (λ (e : Element). e.number), length-filter is_user G.elements)
