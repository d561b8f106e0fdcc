-- A look-up of a name is the search of the elements for it.
use Rattle.std.proofs.Common.{◌≡◌, ℕ, Bool, true, false, List, [], ◌∷◌, Option, Some, None, find, is_some, option_map, refl, sym, ap, ◌∙◌, cond, eqb, ◌||◌, bytes_eq, filter, not}
use Rattle.std.specs.Map.{lookup}
use Rattle.std.specs.List.{list_any}
use Rattle.std.proofs.lemmas.Bool.{false≢true, true≢false, eq-eqb, eqb-true}
use Rattle.std.proofs.lemmas.Slice.Eq.{bytes_eq-Decides}
use Rattle.pm_model.specs.State.{element_at, is_named, is_numbered, number_named}
use Rattle.pm_model.specs.Formed.{Each}
use Rattle.pm_model.specs.declared.elements.Element.{Element}
use Rattle.pm_model.specs.Effect.{placed}
use Rattle.pm_names.specs.Named.{Renames}
use Rattle.pm_elements.specs.Kept.{Named}
use Rattle.pm_elements.proofs.Lists.{is_some-map, Each-placed, Each-filter, element_at-placed, element_at-filtered}

pub same_bytes : (xs ys : List ℕ) → bytes_eq xs ys ≡ true → xs ≡ ys
same_bytes xs ys h = (bytes_eq-Decides xs ys).0 h

pub bytes_same : (xs ys : List ℕ) → xs ≡ ys → bytes_eq xs ys ≡ true
bytes_same xs ys e = (bytes_eq-Decides xs ys).1 e

-- what is found by its name is known by it
known_number : (es : List Element) (names : List (List ℕ × ℕ)) (q : List ℕ) (e : Element) → Each (λ d. lookup (bytes_eq d.name) names ≡ Some d.number) es
    → find (is_named q) es ≡ Some e → lookup (bytes_eq q) names ≡ Some e.number
known_number [] names q e known h = cc
known_number (d ∷ es) names q e known h = go (bytes_eq q d.name) refl h (known_number es names q e known.1) where
  go : (b : Bool) → bytes_eq q d.name ≡ b → cond b (Some d) (find (is_named q) es) ≡ Some e → (find (is_named q) es ≡ Some e → lookup (bytes_eq q) names ≡ Some e.number)
      → lookup (bytes_eq q) names ≡ Some e.number
  go true t h rest = let same : q ≡ d.name = same_bytes q d.name t in let is : d ≡ e = cc in rw (same, ← is) known.0
  go false t h rest = rest h

-- a name that a number has is found
found_name : (es : List Element) (n : ℕ) (q : List ℕ) → option_map (λ (e : Element). e.name) (element_at es n) ≡ Some q → is_some (find (is_named q) es) ≡ true
found_name [] n q h = cc
found_name (d ∷ es) n q h = go (eqb d.number n) (bytes_eq q d.name) refl (found_name es n q) h where
  go : (b c : Bool) → bytes_eq q d.name ≡ c → (option_map (λ (e : Element). e.name) (element_at es n) ≡ Some q → is_some (find (is_named q) es) ≡ true)
      → option_map (λ (e : Element). e.name) (cond b (Some d) (element_at es n)) ≡ Some q → is_some (cond c (Some d) (find (is_named q) es)) ≡ true
  go b true t rest h = refl
  go true false t rest h = let is : d.name ≡ q = cc in absurd (true≢false (sym (bytes_same q d.name (sym is)) ∙ t))
  go false false t rest h = rest h

-- the number that the names give is that of the element found
pub lookup_named : (es : List Element) (names : List (List ℕ × ℕ)) (q : List ℕ) → Named es names → lookup (bytes_eq q) names ≡ number_named es q
lookup_named es names q h = go (find (is_named q) es) (lookup (bytes_eq q) names) refl refl where
  go : (o : Option Element) (l : Option ℕ) → find (is_named q) es ≡ o → lookup (bytes_eq q) names ≡ l → lookup (bytes_eq q) names ≡ option_map (λ (e : Element). e.number) (find (is_named q) es)
  go (Some e) l is at_q = known_number es names q e h.known is ∙ sym (ap (option_map (λ (d : Element). d.number)) is)
  go None None is at_q = at_q ∙ sym (ap (option_map (λ (d : Element). d.number)) is)
  go None (Some n) is at_q = absurd (false≢true (sym (ap is_some is) ∙ found_name es n q (h.found q n at_q)))

any-find : {X : Type 0} (p : X → Bool) (xs : List X) → list_any p xs ≡ is_some (find p xs)
any-find p [] = refl
any-find p (x ∷ xs) = go (p x) (list_any p xs) (find p xs) x (any-find p xs) where
  go : {X : Type 0} (b t : Bool) (f : Option X) (x : X) → t ≡ is_some f → (b || t) ≡ is_some (cond b (Some x) f)
  go true t f x e = refl
  go false t f x e = e

-- a name is taken exactly where it has a number
pub any_named : (name : List ℕ) (es : List Element) → list_any (is_named name) es ≡ is_some (number_named es name)
any_named name es = any-find (is_named name) es ∙ sym (is_some-map (λ (e : Element). e.number) (find (is_named name) es))

-- ---- a change of the elements

-- one more element, whose name was free
pub Named-placed : (es : List Element) (names names' : List (List ℕ × ℕ)) (x : Element) → Named es names → element_at es x.number ≡ None → lookup (bytes_eq x.name) names ≡ None
    → Renames x.name (Some x.number) names names' → Named (placed x es) names'
Named-placed es names names' x h apart free changed = record {
  known = Each-placed (λ e. lookup (bytes_eq e.name) names ≡ Some e.number) (λ e. lookup (bytes_eq e.name) names' ≡ Some e.number) old x es h.known
      (changed x.name ∙ rw (bytes_same x.name x.name refl) refl);
  found = λ q n is. there q n (bytes_eq x.name q) refl (sym (changed q) ∙ is);
} where
  old : (e : Element) → lookup (bytes_eq e.name) names ≡ Some e.number → lookup (bytes_eq e.name) names' ≡ Some e.number
  old e is = go (bytes_eq x.name e.name) refl (changed e.name) where
    go : (b : Bool) → bytes_eq x.name e.name ≡ b → lookup (bytes_eq e.name) names' ≡ cond b (Some x.number) (lookup (bytes_eq e.name) names) → lookup (bytes_eq e.name) names' ≡ Some e.number
    go true t c = let same : x.name ≡ e.name = same_bytes x.name e.name t in let none : lookup (bytes_eq e.name) names ≡ None = rw same at free in cc
    go false t c = c ∙ is

  there : (q : List ℕ) (n : ℕ) (b : Bool) → bytes_eq x.name q ≡ b → cond b (Some x.number) (lookup (bytes_eq q) names) ≡ Some n
      → option_map (λ (e : Element). e.name) (element_at (placed x es) n) ≡ Some q
  there q n true t is =
      let at_x : x.number ≡ n = cc in
      let same : x.name ≡ q = same_bytes x.name q t in
      ap (option_map (λ (e : Element). e.name)) (element_at-placed x es n apart) ∙ rw (eq-eqb x.number n at_x) (ap Some same)
  there q n false t is = go (eqb x.number n) refl where
    was : option_map (λ (e : Element). e.name) (element_at es n) ≡ Some q
    was = h.found q n is

    go : (b : Bool) → eqb x.number n ≡ b → option_map (λ (e : Element). e.name) (element_at (placed x es) n) ≡ Some q
    go true u = let none : element_at es n ≡ None = rw (eqb-true x.number n u) at apart in let gone : option_map (λ (e : Element). e.name) (element_at es n) ≡ None = ap (option_map (λ (e : Element). e.name)) none in cc was
    go false u = ap (option_map (λ (e : Element). e.name)) (element_at-placed x es n apart) ∙ rw u was

known_at : (es : List Element) (names : List (List ℕ × ℕ)) (n : ℕ) (name : List ℕ) → Each (λ e. lookup (bytes_eq e.name) names ≡ Some e.number) es
    → option_map (λ (e : Element). e.name) (element_at es n) ≡ Some name → lookup (bytes_eq name) names ≡ Some n
known_at [] names n name known h = cc
known_at (e ∷ es) names n name known h = go (eqb e.number n) refl h (known_at es names n name known.1) where
  go : (b : Bool) → eqb e.number n ≡ b → option_map (λ (d : Element). d.name) (cond b (Some e) (element_at es n)) ≡ Some name
      → (option_map (λ (d : Element). d.name) (element_at es n) ≡ Some name → lookup (bytes_eq name) names ≡ Some n) → lookup (bytes_eq name) names ≡ Some n
  go true t h rest = let same : e.name ≡ name = cc in rw (← same, ← eqb-true e.number n t) known.0
  go false t h rest = rest h

-- one element less, whose name leads nowhere now
pub Named-filtered : (es : List Element) (names names' : List (List ℕ × ℕ)) (n : ℕ) (name : List ℕ) → Named es names → option_map (λ (e : Element). e.name) (element_at es n) ≡ Some name
    → Renames name None names names' → Named (filter (λ e. not (is_numbered n e)) es) names'
Named-filtered es names names' n name h at_n changed = record {
  known = Each-filter (λ e. lookup (bytes_eq e.name) names ≡ Some e.number) (λ e. lookup (bytes_eq e.name) names' ≡ Some e.number) (λ e. not (is_numbered n e)) other es h.known;
  found = λ q k is. there q k (bytes_eq name q) refl (sym (changed q) ∙ is);
} where
  led : lookup (bytes_eq name) names ≡ Some n
  led = known_at es names n name h.known at_n

  other : (e : Element) → not (is_numbered n e) ≡ true → lookup (bytes_eq e.name) names ≡ Some e.number → lookup (bytes_eq e.name) names' ≡ Some e.number
  other e stays is = go (bytes_eq name e.name) refl (changed e.name) where
    go : (b : Bool) → bytes_eq name e.name ≡ b → lookup (bytes_eq e.name) names' ≡ cond b None (lookup (bytes_eq e.name) names) → lookup (bytes_eq e.name) names' ≡ Some e.number
    go true t c =
        let same : name ≡ e.name = same_bytes name e.name t in
        let twice : Some n ≡ Some e.number = sym led ∙ rw same is in
        let number : e.number ≡ n = cc in
        absurd (false≢true (sym (ap not (eq-eqb e.number n number)) ∙ stays))
    go false t c = c ∙ is

  there : (q : List ℕ) (k : ℕ) (b : Bool) → bytes_eq name q ≡ b → cond b None (lookup (bytes_eq q) names) ≡ Some k
      → option_map (λ (e : Element). e.name) (element_at (filter (λ e. not (is_numbered n e)) es) k) ≡ Some q
  there q k true t is = cc
  there q k false t is = go (eqb n k) refl where
    was : option_map (λ (e : Element). e.name) (element_at es k) ≡ Some q
    was = h.found q k is

    go : (b : Bool) → eqb n k ≡ b → option_map (λ (e : Element). e.name) (element_at (filter (λ e. not (is_numbered n e)) es) k) ≡ Some q
    go true u =
        let here : option_map (λ (e : Element). e.name) (element_at es k) ≡ Some name = rw (eqb-true n k u) at at_n in
        let same : name ≡ q = cc was in
        absurd (false≢true (sym t ∙ bytes_same name q same))
    go false u = ap (option_map (λ (e : Element). e.name)) (element_at-filtered n es k) ∙ rw u was
