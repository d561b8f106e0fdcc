-- The list of a review is by rising number, and of live elements.
use Rattle.std.proofs.Common.{◌≡◌, ℕ, ◌+◌, ◌≤◌, ◌==◌, Bool, true, false, List, [], ◌∷◌, map, filter, find, is_some, IsTrue, All, refl, arith, eq-eqb}
use Rattle.std.proofs.lemmas.List.Elements.{All-nil, All-cons, All-map, All-filter}
use Rattle.pm_model.specs.Formed.{AreRising, IsWellFormed}
use Rattle.pm_model.specs.Reviews.{pair, has_some, is_user, list_of, numbers_in, rights_in, users_in}
use Rattle.pm_model.specs.State.{Graph, element_at, is_numbered}
use Rattle.pm_model.specs.declared.elements.Element.{Element}
use Rattle.pm_model.specs.declared.reviews.Pair.{Pair}
use Rattle.pm_model.specs.declared.reviews.ReviewOf.{ReviewOf}
use Rattle.pm_model.specs.declared.reviews.ReviewOf.TheVariants.{Caps, Entries}
use Rattle.pm_review.specs.Rising.{RiseFrom, PairsRiseFrom, AllNamed}

-- ---- by rising number

RiseFrom-lower : (low least : ℕ) (ns : List ℕ) → RiseFrom least ns → low ≤ least → RiseFrom low ns
RiseFrom-lower low least [] h lower = tt
RiseFrom-lower low least (n ∷ ns) h lower = (omega (arith, h.0, lower), h.1)

numbers-rise : (low : ℕ) (es : List Element) → AreRising low es → RiseFrom low (numbers_in es)
numbers-rise low [] h = tt
numbers-rise low (e ∷ es) h = (h.0, numbers-rise (e.number + 1) es h.1)

numbers-rise_filtered : (p : Element → Bool) (low : ℕ) (es : List Element) → AreRising low es → RiseFrom low (numbers_in (filter p es))
numbers-rise_filtered p low [] h = tt
numbers-rise_filtered p low (e ∷ es) h = either (numbers-rise_filtered p (e.number + 1) es h.1) (p e) refl where
  either : RiseFrom (e.number + 1) (numbers_in (filter p es)) → (b : Bool) → p e ≡ b → RiseFrom low (numbers_in (filter p (e ∷ es)))
  either rest true is = rw is (h.0, rest)
  either rest false is = rw is (RiseFrom-lower low (e.number + 1) (numbers_in (filter p es)) rest (omega (arith, h.0)))

module _ (f : ℕ → ℕ) where
  pairs-rise : (low : ℕ) (ns : List ℕ) → RiseFrom low ns → PairsRiseFrom low (filter has_some (map (λ n. pair n (f n)) ns))
  pairs-rise low [] h = tt
  pairs-rise low (n ∷ ns) h = either (pairs-rise (n + 1) ns h.1) (has_some (pair n (f n))) refl where
    either : PairsRiseFrom (n + 1) (filter has_some (map (λ n. pair n (f n)) ns)) → (b : Bool) → has_some (pair n (f n)) ≡ b →
        PairsRiseFrom low (filter has_some (map (λ n. pair n (f n)) (n ∷ ns)))
    either rest true is = rw is (h.0, rest)
    either rest false is = rw is (RiseFrom-lower low (n + 1) (map (λ (p : Pair). p.element) (filter has_some (map (λ n. pair n (f n)) ns))) rest (omega (arith, h.0)))

  pairs-named : (named : ℕ → Bool) (ns : List ℕ) → All (λ n. IsTrue (named n)) ns → AllNamed named (filter has_some (map (λ n. pair n (f n)) ns))
  pairs-named named ns h =
      All-filter has_some (λ (p : Pair). IsTrue (named p.element)) (map (λ n. pair n (f n)) ns) (All-map (λ (p : Pair). IsTrue (named p.element)) (λ n. pair n (f n)) ns h)

-- ---- of live elements

abbrev has : List Element → ℕ → Bool
has es n = is_some (element_at es n)

has-further : (e : Element) (es : List Element) (n : ℕ) → IsTrue (has es n) → IsTrue (has (e ∷ es) n)
has-further e es n h = by (e.number == n) refl where
  by : (b : Bool) → (e.number == n) ≡ b → IsTrue (has (e ∷ es) n)
  by true is = rw is refl
  by false is = rw is h

has-first : (e : Element) (es : List Element) → IsTrue (has (e ∷ es) e.number)
has-first e es = let is : (e.number == e.number) ≡ true = eq-eqb e.number e.number refl in rw is refl

has-each : (all es : List Element) → ((n : ℕ) → IsTrue (has es n) → IsTrue (has all n)) → All (λ (e : Element). IsTrue (has all e.number)) es
has-each all [] h = All-nil (λ (e : Element). IsTrue (has all e.number))
has-each all (e ∷ es) h =
    All-cons (λ (x : Element). IsTrue (has all x.number)) e es (h e.number (has-first e es)) (has-each all es (λ n k. h n (has-further e es n k)))

elements-live : (es : List Element) → All (λ n. IsTrue (has es n)) (numbers_in es)
elements-live es = All-map (λ n. IsTrue (has es n)) (λ (e : Element). e.number) es (has-each es es (λ n h. h))

users-live : (es : List Element) → All (λ n. IsTrue (has es n)) (users_in es)
users-live es =
    All-map (λ n. IsTrue (has es n)) (λ (e : Element). e.number) (filter is_user es) (All-filter is_user (λ (e : Element). IsTrue (has es e.number)) es (has-each es es (λ n h. h)))

-- ---- the lists of a graph

pub list_rises : (G : Graph) (of : ReviewOf ℕ) → IsWellFormed G → PairsRiseFrom 0 (list_of G of)
list_rises G (Caps u) f = pairs-rise (rights_in G u) 0 (numbers_in G.elements) (numbers-rise 0 G.elements f.elements.rising)
list_rises G (Entries e) f = pairs-rise (λ u. rights_in G u e) 0 (users_in G.elements) (numbers-rise_filtered is_user 0 G.elements f.elements.rising)

pub list_live : (G : Graph) (of : ReviewOf ℕ) → IsWellFormed G → AllNamed (λ n. is_some (element_at G.elements n)) (list_of G of)
list_live G (Caps u) f = pairs-named (rights_in G u) (has G.elements) (numbers_in G.elements) (elements-live G.elements)
list_live G (Entries e) f = pairs-named (λ u. rights_in G u e) (has G.elements) (users_in G.elements) (users-live G.elements)
