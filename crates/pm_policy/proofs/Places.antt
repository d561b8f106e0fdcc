use Rattle.pm_laws.proofs.Items.{find-found, any-from, any-found, find-some}
use Rattle.std.proofs.lemmas.Slice.Eq.{bytes_eq-Decides}
-- Elements that are numbered in the order in which they were made.
use Rattle.std.proofs.Common.{◌≡◌, ◌≤◌, ◌<◌, ◌+◌, ◌||◌, ℕ, true, false, List, [], ◌∷◌, ◌++◌, length, Option, Some, refl, sym, ◌∙◌, ap, arith, eq-eqb, ne_eqb, if◌then◌else◌, Contains, inl, inr, subst}
use Rattle.std.specs.List.{list_any}
use Rattle.std.proofs.lemmas.Bool.{cond_both, le-ltb, or_parts, cases_Bool}
use Rattle.pm_model.specs.State.{element, element_at, is_named, number_named, name_or_none}
use Rattle.pm_model.specs.Effect.{placed}
use Rattle.pm_model.specs.Resolve.{unused, unused_from}
use Rattle.pm_model.specs.declared.elements.Element.{Element}
use Rattle.pm_policy.specs.Policy.{is_called, called}
use Rattle.pm_policy.specs.Order.{is_made}
use Rattle.pm_policy.specs.declared.policy.DocElement.{DocElement}

-- numbered from n on
abbrev pub counted : ℕ → List DocElement → List Element
counted n [] = []
counted n (e ∷ es) = element n e.kind e.name ∷ counted (n + 1) es

-- the number of a name
abbrev pub place_from : ℕ → List DocElement → List ℕ → ℕ
place_from n [] name = n
place_from n (e ∷ es) name = if is_called name e then n else place_from (n + 1) es name

abbrev pub place : List DocElement → List ℕ → ℕ
place es name = place_from 0 es name

pub counted-push : (n : ℕ) (es : List DocElement) (e : DocElement) →
    counted n (es ++ e ∷ []) ≡ counted n es ++ element (n + length es) e.kind e.name ∷ []
counted-push n [] e = ap (λ k. element k e.kind e.name ∷ []) (omega arith)
counted-push n (d ∷ es) e =
    ap (λ l. element n d.kind d.name ∷ l) (counted-push (n + 1) es e
    ∙ ap (λ k. counted (n + 1) es ++ element k e.kind e.name ∷ []) (omega arith))

pub counted-unused : (n : ℕ) (es : List DocElement) → unused_from n (counted n es) ≡ n + length es
counted-unused n [] = omega arith
counted-unused n (e ∷ es) = let rest = counted-unused (n + 1) es in rw (eq-eqb n n refl) (omega (arith, rest))

counted-placed : (n : ℕ) (es : List DocElement) (x : Element) → n + length es ≤ x.number →
    placed x (counted n es) ≡ counted n es ++ x ∷ []
counted-placed n [] x far = refl
counted-placed n (e ∷ es) x far =
    rw (le-ltb x.number n (omega (arith, far))) (ap (λ l. element n e.kind e.name ∷ l) (counted-placed (n + 1) es x (omega (arith, far))))

-- one element more
pub counted-more : (es : List DocElement) (e : DocElement) →
    placed (element (unused (counted 0 es)) e.kind e.name) (counted 0 es) ≡ counted 0 (es ++ e ∷ [])
counted-more es e =
    let u = counted-unused 0 es in
    counted-placed 0 es (element (unused (counted 0 es)) e.kind e.name) (omega (arith, u))
    ∙ ap (λ k. counted 0 es ++ element k e.kind e.name ∷ []) u ∙ sym (counted-push 0 es e)

pub length-counted : (n : ℕ) (es : List DocElement) → length (counted n es) ≡ length es
length-counted n [] = refl
length-counted n (e ∷ es) = let rest = length-counted (n + 1) es in omega (arith, rest)

-- a name that has been made has its number
pub number-made : (n : ℕ) (es : List DocElement) (name : List ℕ) → is_made es name ≡ true → number_named (counted n es) name ≡ Some (place_from n es name)
number-made n [] name h = absurd (cc)
number-made n (e ∷ es) name h = elim (cases_Bool (is_called name e)) [
  | inl is ↦ rw is refl
  | inr other ↦ rw other (number-made (n + 1) es name (rw other at h))
]

pub place-least : (n : ℕ) (es : List DocElement) (name : List ℕ) → n ≤ place_from n es name
place-least n [] name = omega arith
place-least n (e ∷ es) name = let rest = place-least (n + 1) es name in
    cond_both (is_called name e) n (place_from (n + 1) es name) (λ k. n ≤ k) (λ is. omega arith) (λ no. omega (arith, rest))

pub place-below : (n : ℕ) (es : List DocElement) (name : List ℕ) → is_made es name ≡ true → place_from n es name < n + length es
place-below n [] name h = absurd (cc)
place-below n (e ∷ es) name h = elim (cases_Bool (is_called name e)) [
  | inl is ↦ rw is (omega arith)
  | inr other ↦ let rest = place-below (n + 1) es name (rw other at h) in rw other (omega (arith, rest))
]

-- it keeps its number
pub place-more : (n : ℕ) (es more : List DocElement) (name : List ℕ) → is_made es name ≡ true → place_from n (es ++ more) name ≡ place_from n es name
place-more n [] more name h = absurd (cc)
place-more n (e ∷ es) more name h = elim (cases_Bool (is_called name e)) [
  | inl is ↦ rw is refl
  | inr other ↦ rw other (place-more (n + 1) es more name (rw other at h))
]

-- a name that is new gets the next number
pub place-new : (n : ℕ) (es more : List DocElement) (e : DocElement) (name : List ℕ) → is_made es name ≡ false → is_called name e ≡ true →
    place_from n (es ++ e ∷ more) name ≡ n + length es
place-new n [] more e name h is = rw is (omega arith)
place-new n (d ∷ es) more e name h is =
    let p = or_parts (is_called name d) (is_made es name) h in
    let rest = place-new (n + 1) es more e name p.1 is in rw p.0 (omega (arith, rest))

-- what stands at the number of a name
pub element-made : (n : ℕ) (es : List DocElement) (name : List ℕ) (d : DocElement) → called es name ≡ Some d →
    element_at (counted n es) (place_from n es name) ≡ Some (element (place_from n es name) d.kind d.name)
element-made n [] name d h = absurd (cc)
element-made n (e ∷ es) name d h = elim (cases_Bool (is_called name e)) [
  | inl is ↦ let found : Some e ≡ Some d = rw is at h in let same : e ≡ d = cc in rw (is, eq-eqb n n refl, same) refl
  | inr other ↦
      let least = place-least (n + 1) es name in
      let skip : place_from n (e ∷ es) name ≡ place_from (n + 1) es name = rw other refl in
      subst (λ k. element_at (counted n (e ∷ es)) k ≡ Some (element k d.kind d.name)) (sym skip)
      (rw (ne_eqb n (place_from (n + 1) es name) (λ same. omega (arith, same, least))) (element-made (n + 1) es name d (rw other at h)))
]

-- a name is taken where it has been made
pub named-made : (n : ℕ) (es : List DocElement) (name : List ℕ) → list_any (is_named name) (counted n es) ≡ is_made es name
named-made n [] name = refl
named-made n (e ∷ es) name = ap (λ b. is_called name e || b) (named-made (n + 1) es name)

-- what is found is called so, and has been made
pub called-name : (es : List DocElement) (name : List ℕ) (d : DocElement) → called es name ≡ Some d → Contains es d × (name ≡ d.name)
called-name es name d h = let p = find-found (is_called name) es d h in (p.0, (bytes_eq-Decides name d.name).0 p.1)

pub called-made : (es : List DocElement) (name : List ℕ) (d : DocElement) → called es name ≡ Some d → is_made es name ≡ true
called-made es name d h = let p = find-found (is_called name) es d h in any-from (is_called name) es d p.0 p.1

pub made-called : (es : List DocElement) (name : List ℕ) → is_made es name ≡ true → (d : DocElement) × (called es name ≡ Some d)
made-called es name h = let p = any-found (is_called name) es h in find-some (is_called name) es p.0 p.1 p.2

-- two names of one number are one
pub place-apart : (es : List DocElement) (a b : List ℕ) → is_made es a ≡ true → is_made es b ≡ true → place es a ≡ place es b → a ≡ b
place-apart es a b h k same =
    let p = made-called es a h in
    let q = made-called es b k in
    let at = element-made 0 es a p.0 p.1 in
    let bt = element-made 0 es b q.0 q.1 in
    let one : Some (element (place es a) p.0.kind p.0.name) ≡ Some (element (place es b) q.0.kind q.0.name) =
    sym at ∙ ap (λ k. element_at (counted 0 es) k) same ∙ bt in
    let names : p.0.name ≡ q.0.name = ap (λ (o : Option Element). name_or_none o) one in
    (called-name es a p.0 p.1).1 ∙ names ∙ sym (called-name es b q.0 q.1).1
