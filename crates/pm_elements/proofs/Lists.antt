-- Lists of elements: one more at its place, and one taken out.
use Rattle.std.proofs.Common.{◌≡◌, ℕ, Bool, true, false, not, List, [], ◌∷◌, filter, Option, Some, None, is_some, option_map, refl, sym, ◌∙◌, cond, eqb, nat_lt}
use Rattle.std.proofs.lemmas.Bool.{eq-eqb, eqb-true, true≢false}
use Rattle.pm_model.specs.State.{element_at, is_numbered}
use Rattle.pm_model.specs.Effect.{placed}
use Rattle.pm_model.specs.Formed.{Each}
use Rattle.pm_model.specs.declared.elements.Element.{Element}

pub is_some-map : {X Y : Type 0} (f : X → Y) (o : Option X) → is_some (option_map f o) ≡ is_some o
is_some-map f None = refl
is_some-map f (Some x) = refl

-- ---- each item

pub Each-placed : (P Q : Element → Type 0) → ((e : Element) → P e → Q e) → (x : Element) (es : List Element) → Each P es → Q x → Each Q (placed x es)
Each-placed P Q f x [] h q = (q, tt)
Each-placed P Q f x (e ∷ es) h q = go (nat_lt x.number e.number) (Each-placed P Q f x es h.1 q) where
  all : (ds : List Element) → Each P ds → Each Q ds
  all [] k = tt
  all (d ∷ ds) k = (f d k.0, all ds k.1)

  go : (b : Bool) → Each Q (placed x es) → Each Q (cond b (x ∷ e ∷ es) (e ∷ placed x es))
  go true rest = (q, (f e h.0, all es h.1))
  go false rest = (f e h.0, rest)

pub Each-filter : {X : Type 0} (P Q : X → Type 0) (test : X → Bool) → ((x : X) → test x ≡ true → P x → Q x) → (xs : List X) → Each P xs → Each Q (filter test xs)
Each-filter P Q test f [] h = tt
Each-filter {X} P Q test f (x ∷ xs) h = go (test x) refl (Each-filter P Q test f xs h.1) where
  go : (b : Bool) → test x ≡ b → Each Q (filter test xs) → Each Q (cond b (x ∷ filter test xs) (filter test xs))
  go true t rest = (f x t h.0, rest)
  go false t rest = rest

-- ---- the element of a number

-- where nothing has the new element's number
pub element_at-placed : (x : Element) (es : List Element) (k : ℕ) → element_at es x.number ≡ None → element_at (placed x es) k ≡ cond (eqb x.number k) (Some x) (element_at es k)
element_at-placed x [] k h = refl
element_at-placed x (e ∷ es) k h = go (eqb e.number x.number) (nat_lt x.number e.number) refl h (element_at-placed x es k) where
  apart : (a b c : Bool) → eqb x.number k ≡ a → eqb e.number k ≡ b → eqb e.number x.number ≡ false → c ≡ false
      → cond b (Some e) (cond a (Some x) (element_at es k)) ≡ cond a (Some x) (cond b (Some e) (element_at es k))
  apart true true c p q other f = absurd (true≢false (sym (eq-eqb e.number x.number (eqb-true e.number k q ∙ sym (eqb-true x.number k p))) ∙ other))
  apart true false c p q other f = refl
  apart false b c p q other f = refl

  go : (same before : Bool) → eqb e.number x.number ≡ same → cond same (Some e) (element_at es x.number) ≡ None
      → (element_at es x.number ≡ None → element_at (placed x es) k ≡ cond (eqb x.number k) (Some x) (element_at es k))
      → element_at (cond before (x ∷ e ∷ es) (e ∷ placed x es)) k ≡ cond (eqb x.number k) (Some x) (cond (eqb e.number k) (Some e) (element_at es k))
  go true before s n rest = cc
  go false true s n rest = refl
  go false false s n rest = rw (rest n) (apart (eqb x.number k) (eqb e.number k) false refl refl s refl)

-- the element is gone, and all others stay
pub element_at-filtered : (n : ℕ) (es : List Element) (k : ℕ) → element_at (filter (λ e. not (is_numbered n e)) es) k ≡ cond (eqb n k) None (element_at es k)
element_at-filtered n [] k = go (eqb n k) where
  go : (b : Bool) → ◌≡◌ {A = Option Element} None (cond b None None)
  go true = refl
  go false = refl
element_at-filtered n (e ∷ es) k = go (eqb e.number n) (eqb n k) (eqb e.number k) refl refl refl (element_at-filtered n es k) where
  go : (out a b : Bool) → eqb e.number n ≡ out → eqb n k ≡ a → eqb e.number k ≡ b → element_at (filter (λ d. not (is_numbered n d)) es) k ≡ cond (eqb n k) None (element_at es k)
      → element_at (cond (not out) (e ∷ filter (λ d. not (is_numbered n d)) es) (filter (λ d. not (is_numbered n d)) es)) k ≡ cond a None (cond b (Some e) (element_at es k))
  go true a true o p q rest = let same : eqb n k ≡ true = eq-eqb n k (sym (eqb-true e.number n o) ∙ eqb-true e.number k q) in let is : a ≡ true = sym p ∙ same in rw is (rw same at rest)
  go true a false o p q rest = rw p at rest
  go false true true o p q rest = absurd (true≢false (sym (eq-eqb e.number n (eqb-true e.number k q ∙ sym (eqb-true n k p))) ∙ o))
  go false true false o p q rest = rw q (rw p at rest)
  go false false true o p q rest = rw q refl
  go false false false o p q rest = rw q (rw p at rest)
